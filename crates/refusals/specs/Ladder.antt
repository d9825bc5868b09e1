-- "Refusal numbers, in order of checking": a call's rules, each with the refusal that is given where it is broken.
use Rattle.std.specs.Prelude.{Bool, cond, List, [], ◌∷◌, Result, Ok, Err}
use Rattle.numbers.specs.Answer.{Answer, done}
use Rattle.numbers.specs.declared.answer.Refusal.{Refusal}

infix 68 ◌else◌
-- `kept else refusal`
pub data Rule : Type 0 where
  ◌else◌ : Bool → Refusal → Rule

-- the refusal of the first rule that is broken, or done
abbrev pub ladder : List Rule → Answer
ladder [] = done
ladder ((kept else refusal) ∷ rules) = cond kept (ladder rules) (Err refusal)

-- what a call gives where its answer is done; or the refusal
abbrev pub yields : {A : Type 0} → Answer → A → Result A Refusal
yields (Ok _) x = Ok x
yields (Err refusal) x = Err refusal
