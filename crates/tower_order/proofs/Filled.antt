-- The table of a plan, one row after the other. Assumes nothing.
use mathlib.Core.Path.{◌≡◌, ◌∙◌, ap}
use mathlib.Core.Logic.{inl}
use mathlib.Core.List.{List}
use Prim.Native.Nat.{ℕ, ◌+◌, ◌-◌, ◌*◌}
use native.Mathlib.Decide.{ℕ_discrete}
use native.Mathlib.Omega.{arith}
use lib.IntN.{ℤ}
use lib.ListN.{take, drop}
use Rattle.rect_order.specs.Table.{Plain}
use Rattle.tower_job.specs.Row.{tower_row}
use Rattle.tower_rects.specs.Rows.{row_rects}
use Rattle.tower_order.specs.Tables.{Stored, Filled}
use Rattle.tower_order.proofs.Written.{rect-stays}

module _ (W H n : ℕ) (plan : List ℕ) where
  pub filled_none : (table : List ℤ) → Plain table → Filled W H n plan table 0
  filled_none table plain = record { rows = λ i h. absurd (omega arith); plain = plain }

  -- one row more
  pub filled_more : (table table' : List ℤ) (i : ℕ) → Filled W H n plan table i → Stored table table' i 6 (row_rects W H n (tower_row plan i))
      → Filled W H n plan table' (i + 1)
  filled_more table table' i f s = record {
    rows = λ j h k l. elim (ℕ_discrete j i) [
      | yes q ↦ rw q (s.here k l)
      | no q ↦ rect-stays table table' j k (λ m d. s.other _ (inl (omega arith))) ∙ f.rows j (omega arith) k l
    ];
    plain = s.plain;
  }

-- row i, as the code cuts it out
pub row_is : (plan : List ℕ) (i : ℕ) → take (32 * i + 32 - 32 * i) (drop (32 * i) plan) ≡ tower_row plan i
row_is plan i = let e : 32 * i + 32 - 32 * i ≡ 32 = omega arith in ap (λ n. take n (drop (32 * i) plan)) e
