-- The promises of the calls on jobs, with the answer's number in the answer's place.
use Rattle.std.specs.Prelude.{List, ℕ, ℤ, Float, length}
use Rattle.numbers.specs.Answer.{answer_number}
use Rattle.refusals.specs.Promise.{lent, Promise}
use Rattle.single_job.specs.Single.{single_answer, single_done}
use Rattle.plan.specs.Run.{memory, in_order, plan_order, answer_for}

-- `run_job`
abbrev pub JobDoneC : ℕ → ℕ → List ℤ → List ℕ → List Float → List Float → ℕ → Type 0
JobDoneC W H differences row before after r =
    Promise (answer_number (single_answer W H (length differences) row before)) (single_done W H differences row before) r after

-- `run`, of a plane and an answer list before and after
abbrev pub RanC : (W H : ℕ) (differences : List ℤ) (plan order : List ℕ) (plane : List Float) (answers : List ℕ) (plane' : List Float) (answers' : List ℕ) → ℕ → Type 0
RanC W H differences plan order plane answers plane' answers' r =
    let before = memory W H differences plane answers in
    Promise (answer_number (answer_for W H differences plan order before))
    (lent (answer_for W H differences plan order before) (in_order W H differences plan (plan_order plan) before) before)
    r (memory W H differences plane' answers')
