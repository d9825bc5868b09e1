-- "Elimination and prediction are as in `gauss_elimination` and `predict_block`" (document 01, Colour parameters): three unknowns from nine sums, by
-- elimination and back substitution, over whole numbers.
use Rattle.std.specs.Prelude.{ℕ, ◌-◌, ◌*◌, ◌^◌, ◌≤◌, ℤ, nat_abs, ◌+ℤ◌}
use Rattle.elimination.specs.Rows.{unit, reduced, row, unit_row, reduced_row, unit_pair, reduced_pair}
use Rattle.elimination.specs.declared.rows.Pair.{Pair}
use Rattle.elimination.specs.declared.rows.Row.{Row}
use Rattle.elimination.specs.declared.Sums.{Sums}
use Rattle.elimination.specs.declared.Params.{Params}

-- every number of it within m; "Sums are shifted .. so each ends at or below 2^22"
pub record ParamsIn (m : ℕ) (r : Params) : Type 0 where
  pub x0 : nat_abs r.x0 ≤ m
  pub x1 : nat_abs r.x1 ≤ m
  pub x2 : nat_abs r.x2 ≤ m

pub record SumsIn (m : ℕ) (s : Sums) : Type 0 where
  pub a00 : nat_abs s.a00 ≤ m
  pub a01 : nat_abs s.a01 ≤ m
  pub a02 : nat_abs s.a02 ≤ m
  pub a11 : nat_abs s.a11 ≤ m
  pub a12 : nat_abs s.a12 ≤ m
  pub a22 : nat_abs s.a22 ≤ m
  pub y0 : nat_abs s.y0 ≤ m
  pub y1 : nat_abs s.y1 ≤ m
  pub y2 : nat_abs s.y2 ≤ m

-- the regulariser, which goes onto the diagonal
abbrev pub regular : ℕ → ℕ
regular D = 2 * 2 ^ (D - 8)

-- the rows as elimination leaves them
unfoldable pub first_row : Sums → ℤ → Row
first_row s reg = unit_row (s.a00 +ℤ reg) (row s.a01 s.a02 s.y0)

unfoldable pub second_row : Sums → ℤ → Row
second_row s reg = reduced_row (row (s.a11 +ℤ reg) s.a12 s.y1) s.a01 (first_row s reg)

unfoldable pub third_row : Sums → ℤ → Row
third_row s reg = reduced_row (row s.a12 (s.a22 +ℤ reg) s.y2) s.a02 (first_row s reg)

unfoldable pub second_pair : Sums → ℤ → Pair
second_pair s reg = unit_pair (second_row s reg).y (second_row s reg).rest

unfoldable pub third_pair : Sums → ℤ → Pair
third_pair s reg = reduced_pair (third_row s reg).rest (third_row s reg).y (second_pair s reg)

-- back substitution: the last unknown first
abbrev pub backward : Row → Pair → ℤ → Params
backward u v x2 =
    record { x0 = reduced (reduced u.rest.t u.y (reduced v.t v.z x2)) u.rest.z x2; x1 = reduced v.t v.z x2; x2 = x2 }

unfoldable pub solved : Sums → ℤ → Params
solved s reg = backward (first_row s reg) (second_pair s reg) (unit (third_pair s reg).z (third_pair s reg).t)
