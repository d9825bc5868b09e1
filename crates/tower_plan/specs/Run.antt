-- What a tower's run promises (document 01, Refusal numbers; document 02, request (v)): "clash, read, write and demand 3 span all three planes". What is
-- promised is the plan's own order; proofs/Reorder shows that the accepted orders end the same.
use Rattle.std.specs.Prelude.{◌≡◌, List, ℕ, ◌+◌, ◌*◌, ◌≤◌, ◌<◌, ℤ, Float, length, get_or}
use Rattle.refusals.specs.Promise.{lent, Promise}
use Rattle.reorder.specs.Order.{Sheet, run, up_from}
use Rattle.planes.specs.Three.{Three}
use Rattle.tower_job.specs.Row.{tower_row}
use Rattle.tower_work.specs.Jobs.{tower_jobs}
use Rattle.tower_work.specs.Granted.{ArePlanes}
use Rattle.tower_order.specs.Rules.{tower_jobs_in}
use Rattle.tower_rules.specs.Rules.{tower_run_answer}
use Rattle.numbers.specs.Answer.{Answer}

-- the memory of a run: its three planes and its answer list
abbrev pub TowerMemory : ℕ → ℕ → List ℤ → Type 0
TowerMemory W H differences = Sheet (tower_jobs W H differences)

abbrev pub tower_memory : (W H : ℕ) (differences : List ℤ) → Three Float → List ℕ → TowerMemory W H differences
tower_memory W H differences planes answers = record { pic = planes; answers = answers }

-- the plan's rows that a list names, done one after the other
abbrev pub tower_in_order : (W H : ℕ) (differences : List ℤ) → List ℕ → List ℕ → TowerMemory W H differences → TowerMemory W H differences
tower_in_order W H differences plan order before = run (tower_jobs W H differences) (tower_row plan) order before

-- the plan's own order
abbrev pub tower_plan_order : List ℕ → List ℕ
tower_plan_order plan = up_from 0 (tower_jobs_in plan)

abbrev pub tower_answer_for : (W H : ℕ) (differences : List ℤ) → List ℕ → List ℕ → TowerMemory W H differences → Answer
tower_answer_for W H differences plan order before =
    tower_run_answer W H (length before.pic.p0) (length before.pic.p1) (length before.pic.p2) (length differences) plan order (length before.answers)

abbrev pub TowerRan : (W H : ℕ) (differences : List ℤ) → List ℕ → List ℕ → TowerMemory W H differences → TowerMemory W H differences → Answer → Type 0
TowerRan W H differences plan order before after r =
    Promise (tower_answer_for W H differences plan order before)
    (lent (tower_answer_for W H differences plan order before) (tower_in_order W H differences plan (tower_plan_order plan) before) before)
    r after

-- the same of three planes and an answer list, before and after
abbrev pub TowerRanOver : (W H : ℕ) (differences : List ℤ) (plan order : List ℕ) → Three Float → List ℕ → Three Float → List ℕ → Answer → Type 0
TowerRanOver W H differences plan order planes answers planes' answers' r =
    TowerRan W H differences plan order (tower_memory W H differences planes answers) (tower_memory W H differences planes' answers') r

-- the rows that an order names are done, one after the other
abbrev pub TowerInOrder : (W H : ℕ) (differences : List ℤ) (plan order : List ℕ) → Three Float → List ℕ → Three Float → List ℕ → Type 0
TowerInOrder W H differences plan order planes answers planes' answers' =
    tower_memory W H differences planes' answers' ≡ tower_in_order W H differences plan order (tower_memory W H differences planes answers)

-- what doing rows asks: planes, and an order that names rows of the plan which have a place in the answer list
pub record TowerRows (W H : ℕ) (planes : Three Float) (plan order : List ℕ) (answers : ℕ) : Type 0 where
  pub are-planes : ArePlanes W H planes.p0 planes.p1 planes.p2
  pub below : (k : ℕ) → k < length order → (32 * get_or order k 0 + 32 ≤ length plan) × (get_or order k 0 < answers)
  pub few : answers ≤ 1024
