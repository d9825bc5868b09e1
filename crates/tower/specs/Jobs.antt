-- The promises of the calls on jobs over three planes, with the answer's number in the answer's place.
use Rattle.std.specs.Prelude.{List, ℕ, ℤ, Float, length}
use Rattle.numbers.specs.Answer.{answer_number}
use Rattle.refusals.specs.Promise.{lent, Promise}
use Rattle.planes.specs.Three.{Three}
use Rattle.tower_single.specs.Single.{tower_single_answer, tower_single}
use Rattle.tower_plan.specs.Run.{tower_memory, tower_in_order, tower_plan_order, tower_answer_for}

-- `run_job`
abbrev pub TowerSingleC : ℕ → ℕ → List ℤ → List ℕ → Three Float → Three Float → ℕ → Type 0
TowerSingleC W H differences row before after r =
    Promise (answer_number (tower_single_answer W H (length differences) row before)) (tower_single W H differences row before) r after

-- `run`, of three planes and an answer list before and after
abbrev pub TowerRanC : (W H : ℕ) (differences : List ℤ) (plan order : List ℕ) → Three Float → List ℕ → Three Float → List ℕ → ℕ → Type 0
TowerRanC W H differences plan order planes answers planes' answers' r =
    let before = tower_memory W H differences planes answers in
    Promise (answer_number (tower_answer_for W H differences plan order before))
    (lent (tower_answer_for W H differences plan order before) (tower_in_order W H differences plan (tower_plan_order plan) before) before)
    r (tower_memory W H differences planes' answers')
