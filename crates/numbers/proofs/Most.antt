-- The largest number of an answer. Assumes nothing.
use Prim.Native.Nat.{◌≤◌}
use native.Mathlib.Omega.{arith}
use Rattle.std.specs.Prelude.{Ok, Err}
use Rattle.numbers.specs.Answer.{Answer, answer_number, refusal_number}
use Rattle.numbers.specs.declared.answer.Refusal.{Refusal}
use Rattle.numbers.specs.declared.answer.Refusal.TheVariants.{BadSize, BadDepth, BadMode, OutsidePlane, NoNeighbour, BadBase, NoDifferences, BadSample, ShortList, BadColourDirection, BadReference, BadLines, BadColourSample, SumTooLarge, BadPlane, BadPlan, NotEachOnce, PairTurned, NotBlocks, BadCheck, OutOfTurn, BadUsed, NotZero, NoRoom}

refusal-most : (r : Refusal) → refusal_number r ≤ 45
refusal-most BadSize = omega arith
refusal-most BadDepth = omega arith
refusal-most BadMode = omega arith
refusal-most OutsidePlane = omega arith
refusal-most NoNeighbour = omega arith
refusal-most BadBase = omega arith
refusal-most NoDifferences = omega arith
refusal-most BadSample = omega arith
refusal-most ShortList = omega arith
refusal-most BadColourDirection = omega arith
refusal-most BadReference = omega arith
refusal-most BadLines = omega arith
refusal-most BadColourSample = omega arith
refusal-most SumTooLarge = omega arith
refusal-most BadPlane = omega arith
refusal-most BadPlan = omega arith
refusal-most NotEachOnce = omega arith
refusal-most PairTurned = omega arith
refusal-most NotBlocks = omega arith
refusal-most BadCheck = omega arith
refusal-most OutOfTurn = omega arith
refusal-most BadUsed = omega arith
refusal-most NotZero = omega arith
refusal-most NoRoom = omega arith

pub answer-most : (a : Answer) → answer_number a ≤ 45
answer-most (Ok _) = omega arith
answer-most (Err r) = refusal-most r
