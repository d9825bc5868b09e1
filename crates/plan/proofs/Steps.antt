-- One more entry of the order is done. Assumes nothing.
use mathlib.Core.Path.{◌≡◌, refl, sym, ◌∙◌, ap}
use mathlib.Core.List.{List}
use Prim.Native.Nat.{ℕ, ◌+◌, ◌<◌}
use native.Mathlib.Numerals.{add-one}
use native.Mathlib.Omega.{arith}
use lib.IntN.{ℤ}
use lib.Ieee.{Float}
use lib.ListN.{length, get_or, set, take}
use lib.Seq.{take_all}
use Rattle.numbers.specs.Answer.{answer_number, Answer}
use Rattle.refusals.specs.Promise.{Promise}
use Rattle.reorder.specs.Order.{do_row, run}
use Rattle.reorder.proofs.Run.{run-next}
use Rattle.job.specs.Row.{Row, row_at}
use Rattle.job.specs.Rules.{job_answer}
use Rattle.job_work.specs.Done.{job_done}
use Rattle.job_work.specs.Jobs.{jobs}
use Rattle.plan.specs.Run.{Memory, memory, in_order}

module _ (W H : ℕ) (differences : List ℤ) (plan order : List ℕ) (before : Memory W H differences) where
  pub none_done : before ≡ in_order W H differences plan (take 0 order) before
  unfolding run
  none_done = refl

  pub all_done : (k : ℕ) → k ≡ length order → in_order W H differences plan (take k order) before ≡ in_order W H differences plan order before
  all_done k e = ap (λ l. in_order W H differences plan l before) (ap (λ n. take n order) e ∙ take_all (length order) order (omega arith))

  pub one_more : (plane after : List Float) (answers : List ℕ) (k v : ℕ) (row : Row) (r : Answer) → k < length order
      → memory W H differences plane answers ≡ in_order W H differences plan (take k order) before
      → row ≡ row_at plan (get_or order k 0)
      → Promise (job_answer W H (length differences) row plane) (job_done W H differences row plane) r after
      → v ≡ answer_number r
      → memory W H differences after (set answers (get_or order k 0) v) ≡ in_order W H differences plan (take (k + 1) order) before
  unfolding do_row
  one_more plane after answers k v row r h same er p ev =
      let i = get_or order k 0 in
      let pics : after ≡ job_done W H differences (row_at plan i) plane = p.holds ∙ ap (λ w. job_done W H differences w plane) er in
      let nums : v ≡ answer_number (job_answer W H (length differences) (row_at plan i) plane) =
      ev ∙ ap answer_number (p.answers ∙ ap (λ w. job_answer W H (length differences) w plane) er) in
      (λ j. memory W H differences (pics j) (set answers i (nums j)))
      ∙ ap (do_row (jobs W H differences) (row_at plan) i) same
      ∙ sym (run-next (jobs W H differences) (row_at plan) order k h before)
      ∙ ap (λ n. in_order W H differences plan (take n order) before) (sym (add-one k))
