-- A run, as a loop makes it: one more entry of the order is done. Assumes nothing.
use mathlib.Core.Path.{◌≡◌, refl}
use mathlib.Core.List.{List, [], ◌∷◌, ◌++◌}
use Prim.Native.Nat.{ℕ, suc, ◌<◌}
use lib.ListN.{length, get_or, take}
use lib.Seq.{take-suc}
use Rattle.reorder.specs.Jobs.{Jobs}
use Rattle.reorder.specs.Order.{Sheet, do_row, run}

module _ (J : Jobs) (row : ℕ → J.Job) where
  pub run-append : (a b : List ℕ) (st : Sheet J) → run J row (a ++ b) st ≡ run J row b (run J row a st)
  unfolding run
  run-append [] b st = refl
  run-append (i ∷ a) b st = run-append a b (do_row J row i st)

  -- one more entry of the order is done
  pub run-next : (order : List ℕ) (k : ℕ) → k < length order → (st : Sheet J)
      → run J row (take (suc k) order) st ≡ do_row J row (get_or order k 0) (run J row (take k order) st)
  unfolding run
  run-next order k h st = rw (take-suc order k 0) (run-append (take k order) (get_or order k 0 ∷ []) st)
