-- One neighbour of a block, above or left, by places in the plane's list: along its line of samples where it is there, or one number for all its entries
-- where it is missing. proofs/Sides shows that these are the places of Behind.
use Rattle.std.specs.Prelude.{◌≡◌, Bool, true, cond, List, ℕ, ◌+◌, ◌-◌, ◌*◌, ◌≤◌, min, ℤ, pos, ◌+ℤ◌, ◌-ℤ◌, Float}
use Rattle.samples.specs.Sample.{is_sample, reading}
use Rattle.edge_line.specs.Along.{along}
use Rattle.edge_line.specs.Every.{every}
use Rattle.edge_line.specs.Run.{run_at, Line}
use Rattle.block_spec.specs.declared.spec.IntraRefSpec.{IntraRefSpec}
use Rattle.sides.specs.declared.Side.{Side}

-- the sample behind entry c of one that is there
abbrev pub side_at : List Float → Side → ℕ → Float
side_at plane side c = run_at plane side.start side.stride (along side.bs side.first (side.end - side.bs) c)

-- each sample behind its entries is a number in 0..m
abbrev pub side_read : ℤ → List Float → Side → Bool
side_read m plane side = cond side.there (every (λ c. is_sample m (side_at plane side c)) (2 * side.bs)) true

-- the number that entry c is
abbrev pub side_value : List Float → Side → ℤ → ℕ → ℤ
side_value plane side spare c = cond side.there (pos (reading (side_at plane side c))) spare

-- its samples lie in a plane of `size` samples
pub record SideLies (size : ℕ) (side : Side) : Type 0 where
  pub block : (1 ≤ side.bs) × (side.bs ≤ 64)
  pub ends : (side.bs ≤ side.end) × (side.end ≤ 2 * side.bs)
  pub line : side.there ≡ true → Line size side.start side.stride side.bs side.first (side.end - side.bs)

-- the two neighbours of a block
abbrev pub above_side : ℕ → IntraRefSpec → Side
above_side W s = record {
  there = s.have_above;
  start = (s.y - 1) * W + s.x;
  stride = 1;
  bs = s.b;
  first = min s.available_above s.b;
  end = s.b + min s.top_right s.b;
}

abbrev pub left_side : ℕ → IntraRefSpec → Side
left_side W s = record {
  there = s.have_left;
  start = s.y * W + (s.x - 1);
  stride = W;
  bs = s.b;
  first = min s.available_left s.b;
  end = s.b + min s.bottom_left s.b;
}

-- what stands for all entries of one that is missing, with the corner's number at hand: the first sample of the other one is the corner's then
abbrev pub above_spare : IntraRefSpec → ℤ → ℤ
above_spare s corner = cond s.have_left corner (pos s.base -ℤ pos 1)

abbrev pub left_spare : IntraRefSpec → ℤ → ℤ
left_spare s corner = cond s.have_above corner (pos s.base +ℤ pos 1)
