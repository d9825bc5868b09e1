-- What a run promises. "In a run only 20 to 23 refuse the whole. Job refusals go into the answer list (0 is done; entry i is plan row i) and the run
-- continues." (document 01, Refusal numbers). What is promised is the plan's own order; proofs/Reorder shows that the accepted orders end the same.
use Rattle.std.specs.Prelude.{◌≡◌, true, List, ℕ, ◌+◌, ◌*◌, ◌≤◌, ◌<◌, ℤ, Float, length, get_or}
use Rattle.block_spec.specs.Rules.{is_plane}
use Rattle.refusals.specs.Promise.{lent, Promise}
use Rattle.reorder.specs.Order.{Sheet, run, up_from}
use Rattle.job.specs.Row.{row_at}
use Rattle.job_work.specs.Jobs.{jobs}
use Rattle.order.specs.Rules.{jobs_in}
use Rattle.run_rules.specs.Rules.{run_answer}
use Rattle.numbers.specs.Answer.{Answer}

-- the memory of a run: its plane and its answer list
abbrev pub Memory : ℕ → ℕ → List ℤ → Type 0
Memory W H differences = Sheet (jobs W H differences)

abbrev pub memory : (W H : ℕ) (differences : List ℤ) → List Float → List ℕ → Memory W H differences
memory W H differences plane answers = record { pic = plane; answers = answers }

-- the plan's rows that a list names, done one after the other
abbrev pub in_order : (W H : ℕ) (differences : List ℤ) → List ℕ → List ℕ → Memory W H differences → Memory W H differences
in_order W H differences plan order before = run (jobs W H differences) (row_at plan) order before

-- the plan's own order
abbrev pub plan_order : List ℕ → List ℕ
plan_order plan = up_from 0 (jobs_in plan)

abbrev pub answer_for : (W H : ℕ) (differences : List ℤ) → List ℕ → List ℕ → Memory W H differences → Answer
answer_for W H differences plan order before =
    run_answer W H (length before.pic) (length differences) plan order (length before.answers)

abbrev pub Ran : (W H : ℕ) (differences : List ℤ) → List ℕ → List ℕ → Memory W H differences → Memory W H differences → Answer → Type 0
Ran W H differences plan order before after r =
    Promise (answer_for W H differences plan order before)
    (lent (answer_for W H differences plan order before) (in_order W H differences plan (plan_order plan) before) before)
    r after

-- the same of a plane and an answer list, before and after
abbrev pub RanOver : (W H : ℕ) (differences : List ℤ) (plan order : List ℕ) (plane : List Float) (answers : List ℕ) (plane' : List Float) (answers' : List ℕ) → Answer → Type 0
RanOver W H differences plan order plane answers plane' answers' r =
    Ran W H differences plan order (memory W H differences plane answers) (memory W H differences plane' answers') r

-- the rows that an order names are done, one after the other
abbrev pub DoneInOrder : (W H : ℕ) (differences : List ℤ) (plan order : List ℕ) (plane : List Float) (answers : List ℕ) (plane' : List Float) (answers' : List ℕ) → Type 0
DoneInOrder W H differences plan order plane answers plane' answers' =
    memory W H differences plane' answers' ≡ in_order W H differences plan order (memory W H differences plane answers)

-- what doing rows asks: a plane, and an order that names rows of the plan which have a place in the answer list
pub record Rows (W H samples : ℕ) (plan order : List ℕ) (answers : ℕ) : Type 0 where
  pub is-plane : is_plane W H samples ≡ true
  pub below : (k : ℕ) → k < length order → (16 * get_or order k 0 + 16 ≤ length plan) × (get_or order k 0 < answers)
  pub few : answers ≤ 1024
