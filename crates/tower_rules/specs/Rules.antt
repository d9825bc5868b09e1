-- "A run tests 20 to 23" (document 01, Refusal numbers, in order of checking), of a tower's run (document 02, request (v)).
use Rattle.std.specs.Prelude.{Bool, ◌&&◌, List, [], ◌∷◌, ℕ, ◌%◌, leb, eqb, length}
use Rattle.numbers.specs.Limits.{most_jobs}
use Rattle.numbers.specs.declared.answer.Refusal.TheVariants.{BadPlane, BadPlan, NotEachOnce, PairTurned}
use Rattle.refusals.specs.Ladder.{Rule, ◌else◌, ladder}
use Rattle.block_spec.specs.Rules.{is_plane}
use Rattle.tower_words.specs.Limits.{tower_words}
use Rattle.tower_order.specs.Rules.{tower_jobs_in, is_tower_once, is_tower_kept}
use Rattle.numbers.specs.Answer.{Answer}

-- 20, of planes with so many samples: "All planes are W by H."
unfoldable pub are_planes : ℕ → ℕ → ℕ → ℕ → ℕ → Bool
are_planes W H n0 n1 n2 = is_plane W H n0 && is_plane W H n1 && is_plane W H n2

-- "21 for rows not 32 words", and what it was
unfoldable pub is_tower_plan : List ℕ → ℕ → ℕ → Bool
is_tower_plan plan order answers =
    eqb (length plan % tower_words) 0 && leb (tower_jobs_in plan) most_jobs && eqb order (tower_jobs_in plan) && eqb answers (tower_jobs_in plan)

-- a run whose planes have so many samples, and whose answer list has `answers` entries
abbrev pub tower_run_rules : ℕ → ℕ → ℕ → ℕ → ℕ → ℕ → List ℕ → List ℕ → ℕ → List Rule
tower_run_rules W H n0 n1 n2 n plan order answers =
    are_planes W H n0 n1 n2 else BadPlane ∷
    is_tower_plan plan (length order) answers else BadPlan ∷
    is_tower_once plan order else NotEachOnce ∷
    is_tower_kept W H n plan order else PairTurned ∷ []

unfoldable pub tower_run_answer : ℕ → ℕ → ℕ → ℕ → ℕ → ℕ → List ℕ → List ℕ → ℕ → Answer
tower_run_answer W H n0 n1 n2 n plan order answers = ladder (tower_run_rules W H n0 n1 n2 n plan order answers)
