-- What the corner's output holds, and what `build_refs` promises of all three.
use Rattle.std.specs.Prelude.{List, ℕ, ℤ, Float, length}
use Rattle.lists.specs.Fill.{filled}
use Rattle.refusals.specs.Promise.{lent, Promise}
use Rattle.block_spec.specs.declared.spec.IntraRefSpec.{IntraRefSpec}
use Rattle.block_spec.specs.Behind.{corner_behind}
use Rattle.sides.specs.Values.{value_of, above_of, left_of}
use Rattle.edges.specs.Rules.{refs_answer}
use Rattle.numbers.specs.Answer.{Answer}

abbrev pub corner_of : List Float → ℕ → IntraRefSpec → List ℤ → List ℤ
corner_of plane W s before = filled 1 (λ i. value_of W plane (corner_behind s)) before

-- the three outputs of a call
pub record Lists : Type 0 where
  pub above : List ℤ
  pub left : List ℤ
  pub corner : List ℤ

-- the answer of a call with these outputs
abbrev pub refs_answer_for : List Float → ℕ → ℕ → IntraRefSpec → Lists → Answer
refs_answer_for plane W H s before = refs_answer plane W H s (length before.above) (length before.left) (length before.corner)

-- what they hold if it is done
abbrev pub refs_of : List Float → ℕ → IntraRefSpec → Lists → Lists
refs_of plane W s before = record {
  above = above_of plane W s before.above;
  left = left_of plane W s before.left;
  corner = corner_of plane W s before.corner;
}

-- what a call promises of its answer r and of its outputs, before and after
abbrev pub Built : List Float → ℕ → ℕ → IntraRefSpec → Lists → Lists → Answer → Type 0
Built plane W H s before after r = Promise (refs_answer_for plane W H s before) (lent (refs_answer_for plane W H s before) (refs_of plane W s before) before) r after
