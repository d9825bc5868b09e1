-- "Elimination and prediction are as in `gauss_elimination` and `predict_block`" (document 01, Colour parameters): the steps of elimination on a row.
use Rattle.std.specs.Prelude.{ℕ, ◌≤◌, max, ℤ, nat_abs, ◌-ℤ◌}
use Rattle.fixed_product.specs.Product.{ilog2, mul_fixed}
use Rattle.reciprocal.specs.Division.{scale_of}
use Rattle.elimination.specs.declared.rows.Pair.{Pair}
use Rattle.elimination.specs.declared.rows.Row.{Row}

-- a pivot may be negative, or 0
abbrev pub pivot : ℤ → ℕ
pivot p = max 1 (nat_abs p)

-- v divided by |p|, with 16 digits after the point
unfoldable pub unit : ℤ → ℤ → ℤ
unit p v = mul_fixed v (scale_of (pivot p)) (ilog2 (pivot p))

-- v less f times u, where u has 16 digits after the point
unfoldable pub reduced : ℤ → ℤ → ℤ → ℤ
reduced v f u = v -ℤ mul_fixed f u 16

-- a row after its pivot, of three columns, and what it has after the first of these
abbrev pub row : ℤ → ℤ → ℤ → Row
row y z t = record { y = y; rest = record { z = z; t = t } }

abbrev pub unit_pair : ℤ → Pair → Pair
unit_pair p r = record { z = unit p r.z; t = unit p r.t }

abbrev pub reduced_pair : Pair → ℤ → Pair → Pair
reduced_pair r f u = record { z = reduced r.z f u.z; t = reduced r.t f u.t }

abbrev pub unit_row : ℤ → Row → Row
unit_row p r = record { y = unit p r.y; rest = unit_pair p r.rest }

abbrev pub reduced_row : Row → ℤ → Row → Row
reduced_row r f u = record { y = reduced r.y f u.y; rest = reduced_pair r.rest f u.rest }

-- every number of it within m
pub record PairIn (m : ℕ) (r : Pair) : Type 0 where
  pub z : nat_abs r.z ≤ m
  pub t : nat_abs r.t ≤ m

pub record RowIn (m : ℕ) (r : Row) : Type 0 where
  pub y : nat_abs r.y ≤ m
  pub rest : PairIn m r.rest
