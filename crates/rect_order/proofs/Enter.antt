-- A row of the table entered in the columns, one number after the other. Assumes nothing.
use mathlib.Core.Path.{◌≡◌, refl, ◌∙◌}
use mathlib.Core.Logic.{◌≢◌}
use mathlib.Core.List.{List}
use Prim.Native.Nat.{ℕ, ◌+◌, ◌*◌, ◌<◌}
use native.Mathlib.Decide.{ℕ_discrete}
use native.Mathlib.Omega.{arith}
use lib.IntN.{ℤ, pos}
use lib.ListN.{length, get_or, set}
use lib.Seq.{get_or-set_same, get_or-set_other}
use Rattle.rect_order.specs.Table.{Plain}
use Rattle.rect_order.specs.Columns.{Entered}
use Rattle.rect_order.proofs.Table.{plain-set}

pub entered-none : (table columns : List ℤ) (i : ℕ) → Plain columns → Entered table columns columns i 0
entered-none table columns i plain = record { here = λ m h. absurd (omega arith); other = λ m j h ne. refl; plain = plain }

module _ (table columns columns' : List ℤ) (i n : ℕ) (small : i < 1024) (fits : 1024 * n + i < length columns')
    (t : Entered table columns columns' i n) where
  same : get_or (set columns' (1024 * n + i) (get_or table (24 * i + n) (pos 0))) (1024 * n + i) (pos 0) ≡ get_or table (24 * i + n) (pos 0)
  same = get_or-set_same columns' (1024 * n + i) (get_or table (24 * i + n) (pos 0)) (pos 0) fits

  stays : (p : ℕ) → p ≢ 1024 * n + i → get_or (set columns' (1024 * n + i) (get_or table (24 * i + n) (pos 0))) p (pos 0) ≡ get_or columns' p (pos 0)
  stays p ne = get_or-set_other columns' (1024 * n + i) p (get_or table (24 * i + n) (pos 0)) (pos 0) ne

  -- one number more
  pub entered-more : Plain table → Entered table columns (set columns' (1024 * n + i) (get_or table (24 * i + n) (pos 0))) i (n + 1)
  entered-more plain = record {
    here = λ m h. elim (ℕ_discrete m n) [ yes q ↦ rw q same | no q ↦ stays (1024 * m + i) (omega arith) ∙ t.here m (omega arith) ];
    other = λ m j h ne. stays (1024 * m + j) (omega arith) ∙ t.other m j h ne;
    plain = plain-set columns' (1024 * n + i) _ fits (plain (24 * i + n)) t.plain;
  }
