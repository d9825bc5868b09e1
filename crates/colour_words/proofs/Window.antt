-- What a colour job needs of luma lies in its luma window: the luma of a place that counts, with the direction's, and of a predicted sample, with the
-- direction's. Assumes nothing.
use mathlib.Core.Path.{◌≡◌}
use mathlib.Core.Bool.{Bool, true, false, not, cond, ◌&&◌}
use Prim.Native.Nat.{ℕ, ◌+◌, ◌-◌, ◌≤◌, ◌<◌}
use native.Mathlib.Omega.{arith}
use lib.Dec.{ltb}
use Rattle.numbers.specs.Colour.{the_colour, rows_up, columns_left}
use Rattle.numbers.specs.declared.colour.ColourDirection.{ColourDirection}
use Rattle.colour_sums.specs.Places.{counts}
use Rattle.colour_sums.proofs.Counted.{counted}
use Rattle.colour_rules.specs.Needed.{before, Place, centre_at, direction_at}
use Rattle.colour_words.specs.declared.ColourWords.{ColourWords}
use Rattle.colour_words.specs.Colour.{colour_window, colour_block}
use Rattle.colour_words.specs.Placed.{ColourPlaced}

-- column x and row y are in both windows
abbrev pub InWindow : ColourWords → ℕ → ℕ → Type 0
InWindow c x y = (x < c.ref_width) × (y < c.ref_height)

-- the line that a direction takes is not after the line itself
before-most : (there : Bool) (start back k : ℕ) → before there start back k ≤ start + k
before-most there start back k = go (ltb k back && not there)
  where
    go : (b : Bool) → cond b (start + k) (start + k - back) ≤ start + k
    go true = omega arith
    go false = omega arith

module _ (c : ColourWords) (x y : ℕ) (e : counts (colour_window c) x y ≡ true) where
  pub counted-in : InWindow c x y
  counted-in = let k = counted (colour_window c) x y e in (omega arith, omega arith)

  pub direction-in : (direction : ColourDirection) → InWindow c (x - columns_left direction) (y - rows_up direction)
  direction-in direction = let k = counted (colour_window c) x y e in (omega arith, omega arith)

module _ (W H : ℕ) (c : ColourWords) (p : ColourPlaced W H c) (i j : ℕ) (hi : i < c.width) (hj : j < c.height) where
  -- the place is in both windows
  abbrev Held : Place → Type 0
  Held q = InWindow c q.x q.y

  pub centre-needed-in : Held (centre_at (colour_block c) i j)
  centre-needed-in = (omega arith, omega arith)

  pub direction-needed-in : Held (direction_at (colour_block c) i j)
  unfolding direction_at
  direction-needed-in = (
    omega (arith, before-most c.have_left c.left_lines (columns_left (the_colour c.direction)) i),
    omega (arith, before-most c.have_top c.above_lines (rows_up (the_colour c.direction)) j),
  )
