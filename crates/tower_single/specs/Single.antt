-- One job of a tower by itself: what it answers, and the three planes afterwards (document 01, Refusal numbers; document 02, request (v)).
use Rattle.std.specs.Prelude.{List, ◌∷◌, ◌++◌, ℕ, eqb, ℤ, Float, length}
use Rattle.numbers.specs.declared.answer.Refusal.TheVariants.{BadPlane, BadPlan}
use Rattle.refusals.specs.Ladder.{Rule, ◌else◌, ladder}
use Rattle.refusals.specs.Promise.{lent, Promise}
use Rattle.planes.specs.Three.{Three}
use Rattle.job.specs.Row.{Row}
use Rattle.tower_words.specs.Limits.{tower_words}
use Rattle.tower_job.specs.Rules.{tower_rules}
use Rattle.tower_rules.specs.Rules.{are_planes}
use Rattle.tower_work.specs.Done.{tower_read_rules, tower_done}
use Rattle.numbers.specs.Answer.{Answer}

-- "a single job 20, 21, then the same"; "21 for rows not 32 words"
abbrev pub tower_single_rules : ℕ → ℕ → ℕ → Row → Three Float → List Rule
tower_single_rules W H n row t =
    are_planes W H (length t.p0) (length t.p1) (length t.p2) else BadPlane ∷
    eqb (length row) tower_words else BadPlan ∷
    (tower_rules W H n row ++ tower_read_rules W row t)

unfoldable pub tower_single_answer : ℕ → ℕ → ℕ → Row → Three Float → Answer
tower_single_answer W H n row t = ladder (tower_single_rules W H n row t)

-- the planes afterwards are the job's; a call that is refused leaves them
unfoldable pub tower_single : ℕ → ℕ → List ℤ → Row → Three Float → Three Float
tower_single W H differences row t = lent (tower_single_answer W H (length differences) row t) (tower_done W H differences row t) t

-- what the call promises of the planes before and after
abbrev pub TowerSingle : ℕ → ℕ → List ℤ → Row → Three Float → Three Float → Answer → Type 0
TowerSingle W H differences row t t' r =
    Promise (tower_single_answer W H (length differences) row t) (tower_single W H differences row t) r t'
