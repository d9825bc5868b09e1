-- One job by itself: what it answers, and the plane afterwards.
use Rattle.std.specs.Prelude.{List, ◌∷◌, ◌++◌, ℕ, eqb, ℤ, Float, length}
use Rattle.numbers.specs.Limits.{row_words}
use Rattle.numbers.specs.declared.answer.Refusal.TheVariants.{BadPlane, BadPlan}
use Rattle.refusals.specs.Ladder.{Rule, ◌else◌, ladder}
use Rattle.refusals.specs.Promise.{lent, Promise}
use Rattle.block_spec.specs.Rules.{is_plane}
use Rattle.sides.specs.Read.{read_rules}
use Rattle.job.specs.Row.{Row, spec_of}
use Rattle.job.specs.Rules.{row_rules}
use Rattle.job_work.specs.Done.{job_done}
use Rattle.numbers.specs.Answer.{Answer}

-- "a single job 20, 21, then the same"; 21: "a single job not 16 words"
abbrev pub single_rules : ℕ → ℕ → ℕ → Row → List Float → List Rule
single_rules W H n row plane = is_plane W H (length plane) else BadPlane ∷ eqb (length row) row_words else BadPlan ∷ (row_rules W H n row ++ read_rules plane W (spec_of row))

unfoldable pub single_answer : ℕ → ℕ → ℕ → Row → List Float → Answer
single_answer W H n row plane = ladder (single_rules W H n row plane)

-- the plane afterwards is the job's; a call that is refused leaves it
unfoldable pub single_done : ℕ → ℕ → List ℤ → Row → List Float → List Float
single_done W H differences row plane = lent (single_answer W H (length differences) row plane) (job_done W H differences row plane) plane

-- what the call promises of the plane before and after
abbrev pub SingleDone : ℕ → ℕ → List ℤ → Row → List Float → List Float → Answer → Type 0
SingleDone W H differences row plane plane' r =
    Promise (single_answer W H (length differences) row plane) (single_done W H differences row plane) r plane'
