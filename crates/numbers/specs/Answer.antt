-- "Refusal numbers, in order of checking"; "0 is done": answer_number alone says which number is done's.
use Rattle.std.specs.Prelude.{Bool, List, [], ◌∷◌, ℕ, eqb, ⊤, Result, Ok, Err, Option, Some, None, map}
use Rattle.numbers.specs.Look.{look}
use Rattle.numbers.specs.declared.answer.Refusal.{Refusal}
use Rattle.numbers.specs.declared.answer.Refusal.TheVariants.{BadSize, BadDepth, BadMode, OutsidePlane, NoNeighbour, BadBase, NoDifferences, BadSample, ShortList, BadColourDirection, BadReference, BadLines, BadColourSample, SumTooLarge, BadPlane, BadPlan, NotEachOnce, PairTurned, NotBlocks, BadCheck, OutOfTurn, BadUsed, NotZero, NoRoom}

-- done, or why the call is refused
abbrev pub Answer : Type 0
Answer = Result ⊤ Refusal

abbrev pub done : Answer
done = Ok tt

-- case to number
abbrev pub refusal_number : Refusal → ℕ
refusal_number BadSize = 1
refusal_number BadDepth = 2
refusal_number BadMode = 3
refusal_number OutsidePlane = 4
refusal_number NoNeighbour = 5
refusal_number BadBase = 6
refusal_number NoDifferences = 7
refusal_number BadSample = 8
refusal_number ShortList = 9
refusal_number BadColourDirection = 10
refusal_number BadReference = 11
refusal_number BadLines = 12
refusal_number BadColourSample = 13
refusal_number SumTooLarge = 14
refusal_number BadPlane = 20
refusal_number BadPlan = 21
refusal_number NotEachOnce = 22
refusal_number PairTurned = 23
refusal_number NotBlocks = 40
refusal_number BadCheck = 41
refusal_number OutOfTurn = 42
refusal_number BadUsed = 43
refusal_number NotZero = 44
refusal_number NoRoom = 45

abbrev pub answer_number : Answer → ℕ
answer_number (Ok _) = 0
answer_number (Err refusal) = refusal_number refusal

abbrev pub refusals : List Refusal
refusals =
    BadSize ∷ BadDepth ∷ BadMode ∷ OutsidePlane ∷ NoNeighbour ∷ BadBase ∷ NoDifferences ∷ BadSample ∷ ShortList ∷
    BadColourDirection ∷ BadReference ∷ BadLines ∷ BadColourSample ∷ SumTooLarge ∷ BadPlane ∷ BadPlan ∷ NotEachOnce ∷ PairTurned ∷
    NotBlocks ∷ BadCheck ∷ OutOfTurn ∷ BadUsed ∷ NotZero ∷ NoRoom ∷ []

-- every answer: done, and each refusal
abbrev pub answers : List Answer
answers = done ∷ map Err refusals

-- number to case
abbrev pub answer_of : ℕ → Option Answer
answer_of n = look answer_number Some None answers n

-- the number is done's
unfoldable pub is_done : Answer → Bool
is_done a = eqb (answer_number a) (answer_number done)
