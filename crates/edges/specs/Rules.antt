-- "`build_refs` tests 20, 1, 2, 4, 5, 6, 9, 8".
use Rattle.std.specs.Prelude.{Bool, ◌&&◌, List, ◌∷◌, ◌++◌, ℕ, leb, Float, length}
use Rattle.numbers.specs.Limits.{ref_cap}
use Rattle.numbers.specs.declared.answer.Refusal.TheVariants.{BadPlane, ShortList}
use Rattle.refusals.specs.Ladder.{Rule, ◌else◌, ladder}
use Rattle.block_spec.specs.declared.spec.IntraRefSpec.{IntraRefSpec}
use Rattle.block_spec.specs.Rules.{is_plane, size_rules, place_rules}
use Rattle.sides.specs.Read.{read_rules}
use Rattle.numbers.specs.Answer.{Answer}

-- "an edge output under 128"; the corner's output has one entry
unfoldable pub outputs_long : ℕ → ℕ → ℕ → Bool
outputs_long above left corner = leb ref_cap above && leb ref_cap left && leb 1 corner

-- "`build_refs` tests 20, 1, 2, 4, 5, 6, 9, 8", of a call whose three outputs have these lengths
abbrev pub refs_rules : List Float → ℕ → ℕ → IntraRefSpec → ℕ → ℕ → ℕ → List Rule
refs_rules plane W H s above left corner =
    is_plane W H (length plane) else BadPlane ∷
    (size_rules s ++ place_rules W H s) ++
    outputs_long above left corner else ShortList ∷
    read_rules plane W s

unfoldable pub refs_answer : List Float → ℕ → ℕ → IntraRefSpec → ℕ → ℕ → ℕ → Answer
refs_answer plane W H s above left corner = ladder (refs_rules plane W H s above left corner)
