-- A rectangle that was read into a list of rows of 256 entries, which held anything before.
use Rattle.std.specs.Prelude.{◌≡◌, List, ℕ, ◌+◌, ◌*◌, ◌≤◌, ◌<◌, ℤ, pos, Float, length, get_or}
use Rattle.std.specs.Float.{nan}
use Rattle.samples.specs.Sample.{reading}
use Rattle.colour_terms.specs.Terms.{stride, entry}
use Rattle.plane_windows.specs.Lies.{place_at}

-- the reading of the sample at column i and row j from x, y on, so many times
abbrev pub read_at : ℕ → ℕ → ℕ → ℕ → List Float → ℕ → ℕ → ℤ
read_at times W x y plane i j = pos (times * reading (get_or plane (place_at W x y i j) nan))

-- in the rectangle stand f's entries afterwards, and an entry that was f's before is so still
pub record Into (f : ℕ → ℕ → ℤ) (x y w h : ℕ) (before after : List ℤ) : Type 0 where
  pub long : length after ≡ length before
  pub there : (i j : ℕ) → x ≤ i → i < x + w → y ≤ j → j < y + h → entry after i j ≡ f i j
  pub kept : (i j : ℕ) → i < stride → entry before i j ≡ f i j → entry after i j ≡ f i j
