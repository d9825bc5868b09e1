-- A rectangle of w by h samples at column x and row y: in a plane, or in a list of rows of 256 entries (document 02, request (v): its windows).
use Rattle.std.specs.Prelude.{◌≡◌, ℕ, ◌+◌, ◌*◌, ◌≤◌}
use Rattle.colour_terms.specs.Terms.{stride}

-- which sample of a plane with rows of W samples stands at column i and row j from x, y on
abbrev pub place_at : ℕ → ℕ → ℕ → ℕ → ℕ → ℕ
place_at W x y i j = (y + j) * W + (x + i)

-- it lies in a plane of `size` samples
pub record Lies (size W x y w h : ℕ) : Type 0 where
  pub H : ℕ
  pub sides : (W ≤ 4096) × (H ≤ 4096)
  pub whole : size ≡ W * H
  pub across : x + w ≤ W
  pub down : y + h ≤ H

-- it lies in a list of n entries
pub record InRows (n x y w h : ℕ) : Type 0 where
  pub columns : x + w ≤ stride
  pub few : y + h ≤ 256
  pub rows : (y + h) * stride ≤ n
