-- What the rules leave to count on: the block and the neighbours that are there lie in the plane.
use Rattle.std.specs.Prelude.{◌≡◌, true, ℕ, ◌+◌, ◌*◌, ◌≤◌, min}
use Rattle.numbers.specs.Size.{is_size}
use Rattle.numbers.specs.Depth.{is_depth}
use Rattle.block_spec.specs.declared.spec.IntraRefSpec.{IntraRefSpec}
use Rattle.block_spec.specs.Rules.{is_base}

-- 1, 2, 4, 5 and 6, in a plane of W by H samples
pub record Standing (W H : ℕ) (s : IntraRefSpec) : Type 0 where
  pub is-size : is_size s.b ≡ true
  pub is-depth : is_depth s.d ≡ true
  pub side : (1 ≤ s.b) × (s.b ≤ 64)
  pub columns : s.x + s.b ≤ W
  pub rows : s.y + s.b ≤ H
  pub above : s.have_above ≡ true → (1 ≤ s.y) × (1 ≤ s.available_above) × (s.x + s.b + min s.top_right s.b ≤ W)
  pub left : s.have_left ≡ true → (1 ≤ s.x) × (1 ≤ s.available_left) × (s.y + s.b + min s.bottom_left s.b ≤ H)
  pub is_base : is_base s ≡ true

-- and 20: its samples are `size` together
pub record Placed (size W : ℕ) (s : IntraRefSpec) : Type 0 where
  pub H : ℕ
  pub sides : (W ≤ 4096) × (H ≤ 4096)
  pub whole : size ≡ W * H
  pub stands : Standing W H s
