-- "A run tests 20 to 23" (document 01, Refusal numbers, in order of checking).
use Rattle.std.specs.Prelude.{Bool, ◌&&◌, List, [], ◌∷◌, ℕ, ◌%◌, leb, eqb, length}
use Rattle.numbers.specs.Limits.{most_jobs, row_words}
use Rattle.numbers.specs.declared.answer.Refusal.TheVariants.{BadPlane, BadPlan, NotEachOnce, PairTurned}
use Rattle.refusals.specs.Ladder.{Rule, ◌else◌, ladder}
use Rattle.block_spec.specs.Rules.{is_plane}
use Rattle.order.specs.Rules.{jobs_in, is_once, is_kept}
use Rattle.numbers.specs.Answer.{Answer}

-- "A plan has 0 to 1,024 jobs." 21: "plan not whole rows or above 1,024 jobs; order or answer list not one entry a job"
unfoldable pub is_plan : List ℕ → ℕ → ℕ → Bool
is_plan plan order answers = eqb (length plan % row_words) 0 && leb (jobs_in plan) most_jobs && eqb order (jobs_in plan) && eqb answers (jobs_in plan)

-- a run whose plane has `samples` entries and whose answer list has `answers`
abbrev pub run_rules : ℕ → ℕ → ℕ → ℕ → List ℕ → List ℕ → ℕ → List Rule
run_rules W H samples n plan order answers =
    is_plane W H samples else BadPlane ∷
    is_plan plan (length order) answers else BadPlan ∷
    is_once plan order else NotEachOnce ∷
    is_kept W H n plan order else PairTurned ∷ []

unfoldable pub run_answer : ℕ → ℕ → ℕ → ℕ → List ℕ → List ℕ → ℕ → Answer
run_answer W H samples n plan order answers = ladder (run_rules W H samples n plan order answers)
