-- What the steps of a job ask and give: differences are added to a predicted block, row by row.
use Rattle.std.specs.Prelude.{◌≡◌, List, ℕ, ◌+◌, ◌*◌, ◌≤◌, ◌<◌, ℤ, pos, ◌+ℤ◌, Float, get_or}
use Rattle.std.specs.Float.{nan}
use Rattle.std.specs.Float.Ieee.{to_signed}
use Rattle.lists.specs.Block.{sample}
use Rattle.taps.specs.Interp.{clip}

-- a predicted sample is a whole number that some depth has
pub record Whole (v : Float) : Type 0 where
  pub number : ℕ
  pub small : number ≤ 4095
  pub is : v ≡ sample (pos number)

-- so are the first n entries of a predicted block
abbrev pub Wholes : ℕ → List Float → Type 0
Wholes n block = (i : ℕ) → i < n → Whole (get_or block i nan)

-- "prediction plus difference, clipped to 0..M"
abbrev pub with_difference : ℤ → Float → ℤ → Float
with_difference m v d = sample (clip m (to_signed 31 v +ℤ d))

-- entry i of a predicted block, and of its differences
abbrev pub added_at : ℤ → List Float → List ℤ → ℕ → Float
added_at m block differences i = with_difference m (get_or block i nan) (get_or differences i (pos 0))

-- a block of B by B samples at column x and row y, in a plane of rows of W samples
pub record Room (size W x y B : ℕ) : Type 0 where
  pub wide : x + B ≤ W
  pub some : 1 ≤ B
  pub small : size ≤ 16777216
  pub near : W ≤ 4096
  pub side : B ≤ 64
  pub lies : (r : ℕ) → r < B → (y + r) * W + x + B ≤ size
