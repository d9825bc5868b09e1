-- How the code gets there (document 02, request (v)): the rectangles of the windows that have the places that count, and what its two lists hold
-- once the samples that are used were read into them.
use Rattle.std.specs.Prelude.{◌≡◌, true, List, ℕ, ◌+◌, ◌-◌, ◌*◌, ◌≤◌, ◌<◌, ℤ, pos, Float, length}
use Rattle.numbers.specs.Colour.{the_colour}
use Rattle.numbers.specs.Depth.{most}
use Rattle.samples.specs.Sample.{is_sample}
use Rattle.plane_windows.specs.declared.patch.Patch.{Patch}
use Rattle.plane_windows.specs.Into.{Into}
use Rattle.plane_windows.specs.Widened.{Inside, Widened}
use Rattle.colour_terms.specs.Terms.{stride, entry}
use Rattle.colour_samples.specs.Sample.{direction_luma}
use Rattle.colour_sums.specs.Places.{counts, wide, high, rows_above, few}
use Rattle.colour_sums.specs.declared.window.Window.{Window}
use Rattle.colour_rules.specs.Needed.{value_at, centre_at, direction_at}
use Rattle.colour_words.specs.declared.ColourWords.{ColourWords}
use Rattle.colour_words.specs.Colour.{colour_window, colour_block}

-- the places that count inside the above lines, those below them, and the block
abbrev pub above_in : Window → Patch
above_in w = record { x = 1; y = 1; w = wide w; h = rows_above w }

abbrev pub below_in : Window → Patch
below_in w = record { x = 1; y = 1 + rows_above w; w = few w; h = high w - rows_above w }

abbrev pub block_in : ColourWords → Patch
block_in c = record { x = c.left_lines; y = c.above_lines; w = c.width; h = c.height }

-- a rectangle of the windows
abbrev pub PatchInWindow : ColourWords → Patch → Type 0
PatchInWindow c p = (p.x + p.w ≤ c.ref_width) × (p.y + p.h ≤ c.ref_height)

-- a list with room for a window
abbrev pub Room : ColourWords → List ℤ → Type 0
Room c xs = c.ref_height * stride ≤ length xs

-- each sample of a rectangle of a window is one of the job's depth
abbrev pub Sampled : ColourWords → Patch → (ℕ → ℕ → Float) → Type 0
Sampled c p f = (i j : ℕ) → Inside p i j → is_sample (pos (most c.d)) (f i j) ≡ true

-- a rectangle of a window that was read, with so many rows above it and columns before it
pub record Around (f : ℕ → ℕ → ℤ) (p : Patch) (up left : ℕ) (before after : List ℤ) : Type 0 where
  pub r : Patch
  pub wider : Widened p up left r
  pub into : Into f r.x r.y r.w r.h before after

-- chroma's list has f's values at the places that count
abbrev pub ChromaHeld : ColourWords → (ℕ → ℕ → ℤ) → List ℤ → Type 0
ChromaHeld c f xs = (x y : ℕ) → counts (colour_window c) x y ≡ true → entry xs x y ≡ f x y

-- luma's has them there and where the direction looks from there
pub record Counted (c : ColourWords) (f : ℕ → ℕ → ℤ) (before after : List ℤ) : Type 0 where
  pub long : length after ≡ length before
  pub centre : (x y : ℕ) → counts (colour_window c) x y ≡ true → entry after x y ≡ f x y
  pub way : (x y : ℕ) → counts (colour_window c) x y ≡ true
      → direction_luma (the_colour c.direction) (entry after) x y ≡ direction_luma (the_colour c.direction) f x y

-- and at the places that the block needs
pub record LumaHeld (c : ColourWords) (f : ℕ → ℕ → ℤ) (xs : List ℤ) : Type 0 where
  pub centre : (x y : ℕ) → counts (colour_window c) x y ≡ true → entry xs x y ≡ f x y
  pub way : (x y : ℕ) → counts (colour_window c) x y ≡ true
      → direction_luma (the_colour c.direction) (entry xs) x y ≡ direction_luma (the_colour c.direction) f x y
  pub own : (i j : ℕ) → i < c.width → j < c.height → value_at (entry xs) (centre_at (colour_block c) i j) ≡ value_at f (centre_at (colour_block c) i j)
  pub near : (i j : ℕ) → i < c.width → j < c.height
      → value_at (entry xs) (direction_at (colour_block c) i j) ≡ value_at f (direction_at (colour_block c) i j)
