-- One more entry of the order is done. Assumes nothing.
use mathlib.Core.Path.{◌≡◌, refl, sym, ◌∙◌, ap}
use mathlib.Core.List.{List}
use Prim.Native.Nat.{ℕ, ◌+◌, ◌<◌}
use native.Mathlib.Numerals.{add-one}
use native.Mathlib.Omega.{arith}
use lib.IntN.{ℤ}
use lib.Ieee.{Float}
use lib.ListN.{length, get_or, set, take}
use lib.Seq.{take_all}
use Rattle.numbers.specs.Answer.{answer_number, Answer}
use Rattle.refusals.specs.Promise.{Promise}
use Rattle.reorder.specs.Order.{do_row, run}
use Rattle.reorder.proofs.Run.{run-next}
use Rattle.job.specs.Row.{Row}
use Rattle.planes.specs.Three.{Three}
use Rattle.tower_job.specs.Row.{tower_row}
use Rattle.tower_work.specs.Done.{tower_job_answer, tower_done}
use Rattle.tower_work.specs.Jobs.{tower_jobs}
use Rattle.tower_plan.specs.Run.{TowerMemory, tower_memory, tower_in_order}

module _ (W H : ℕ) (differences : List ℤ) (plan order : List ℕ) (before : TowerMemory W H differences) where
  pub none_done : before ≡ tower_in_order W H differences plan (take 0 order) before
  unfolding run
  none_done = refl

  pub all_done : (k : ℕ) → k ≡ length order → tower_in_order W H differences plan (take k order) before ≡ tower_in_order W H differences plan order before
  all_done k e = ap (λ l. tower_in_order W H differences plan l before) (ap (λ n. take n order) e ∙ take_all (length order) order (omega arith))

  pub one_more : (planes after : Three Float) (answers : List ℕ) (k v : ℕ) (row : Row) (r : Answer) → k < length order
      → tower_memory W H differences planes answers ≡ tower_in_order W H differences plan (take k order) before
      → row ≡ tower_row plan (get_or order k 0)
      → Promise (tower_job_answer W H (length differences) row planes) (tower_done W H differences row planes) r after
      → v ≡ answer_number r
      → tower_memory W H differences after (set answers (get_or order k 0) v) ≡ tower_in_order W H differences plan (take (k + 1) order) before
  unfolding do_row
  one_more planes after answers k v row r h same er p ev =
      let i = get_or order k 0 in
      let pics : after ≡ tower_done W H differences (tower_row plan i) planes = p.holds ∙ ap (λ w. tower_done W H differences w planes) er in
      let nums : v ≡ answer_number (tower_job_answer W H (length differences) (tower_row plan i) planes) =
      ev ∙ ap answer_number (p.answers ∙ ap (λ w. tower_job_answer W H (length differences) w planes) er) in
      (λ j. tower_memory W H differences (pics j) (set answers i (nums j)))
      ∙ ap (do_row (tower_jobs W H differences) (tower_row plan) i) same
      ∙ sym (run-next (tower_jobs W H differences) (tower_row plan) order k h before)
      ∙ ap (λ n. tower_in_order W H differences plan (take n order) before) (sym (add-one k))
