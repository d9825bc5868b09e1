-- What the edges hold (document 01, From samples to edges).
use Rattle.std.specs.Prelude.{List, ℕ, ℤ, Float}
use Rattle.edge_line.specs.Edge.{edge_of}
use Rattle.block_spec.specs.declared.spec.IntraRefSpec.{IntraRefSpec}
use Rattle.block_spec.specs.Behind.{Behind, above_behind, left_behind}
use Rattle.sides.specs.Spot.{spot_of, spot_value}

-- the number of what stands behind an entry
abbrev pub value_of : ℕ → List Float → Behind → ℤ
value_of W plane b = spot_value plane (spot_of W b)

-- the 128 entries above and at the left, and the tail as it was
abbrev pub above_of : List Float → ℕ → IntraRefSpec → List ℤ → List ℤ
above_of plane W s before = edge_of s.b (λ c. value_of W plane (above_behind s c)) before

abbrev pub left_of : List Float → ℕ → IntraRefSpec → List ℤ → List ℤ
left_of plane W s before = edge_of s.b (λ c. value_of W plane (left_behind s c)) before
