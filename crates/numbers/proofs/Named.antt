-- The number of an answer and the answer of a number agree, both ways; done is the one that is 0. Assumes nothing.
use mathlib.Core.Path.{◌≡◌, refl, sym, ◌∙◌, ap}
use mathlib.Core.Bool.{true, false}
use Prim.Native.Nat.{ℕ}
use borrow.Author.Tests.{eqb-true, eq-eqb}
use Rattle.std.specs.Prelude.{⊤, Ok, Err, Some, None, is_ok}
use Rattle.std.proofs.lemmas.Option.{same_Some, none-some}
use Rattle.numbers.specs.Answer.{Answer, done, refusal_number, answer_number, answers, answer_of, is_done}
use Rattle.numbers.specs.declared.answer.Refusal.{Refusal}
use Rattle.numbers.specs.declared.answer.Refusal.TheVariants.{BadSize, BadDepth, BadMode, OutsidePlane, NoNeighbour, BadBase, NoDifferences, BadSample, ShortList, BadColourDirection, BadReference, BadLines, BadColourSample, SumTooLarge, BadPlane, BadPlan, NotEachOnce, PairTurned, NotBlocks, BadCheck, OutOfTurn, BadUsed, NotZero, NoRoom}
use Rattle.numbers.proofs.Look.{look-back}

refusal-there : (r : Refusal) → answer_of (refusal_number r) ≡ Some (Err r)
refusal-there BadSize = refl
refusal-there BadDepth = refl
refusal-there BadMode = refl
refusal-there OutsidePlane = refl
refusal-there NoNeighbour = refl
refusal-there BadBase = refl
refusal-there NoDifferences = refl
refusal-there BadSample = refl
refusal-there ShortList = refl
refusal-there BadColourDirection = refl
refusal-there BadReference = refl
refusal-there BadLines = refl
refusal-there BadColourSample = refl
refusal-there SumTooLarge = refl
refusal-there BadPlane = refl
refusal-there BadPlan = refl
refusal-there NotEachOnce = refl
refusal-there PairTurned = refl
refusal-there NotBlocks = refl
refusal-there BadCheck = refl
refusal-there OutOfTurn = refl
refusal-there BadUsed = refl
refusal-there NotZero = refl
refusal-there NoRoom = refl

pub answer-there : (e : Answer) → answer_of (answer_number e) ≡ Some e
answer-there (Ok _) = refl
answer-there (Err r) = refusal-there r

pub answer_back : (n : ℕ) (e : Answer) → answer_of n ≡ Some e → answer_number e ≡ n
answer_back n e h = look-back answer_number Some None same_Some none-some answers n e h

-- a refusal is never done
pub refusal-not-done : (r : Refusal) → is_done (Err r) ≡ false
unfolding is_done
refusal-not-done BadSize = refl
refusal-not-done BadDepth = refl
refusal-not-done BadMode = refl
refusal-not-done OutsidePlane = refl
refusal-not-done NoNeighbour = refl
refusal-not-done BadBase = refl
refusal-not-done NoDifferences = refl
refusal-not-done BadSample = refl
refusal-not-done ShortList = refl
refusal-not-done BadColourDirection = refl
refusal-not-done BadReference = refl
refusal-not-done BadLines = refl
refusal-not-done BadColourSample = refl
refusal-not-done SumTooLarge = refl
refusal-not-done BadPlane = refl
refusal-not-done BadPlan = refl
refusal-not-done NotEachOnce = refl
refusal-not-done PairTurned = refl
refusal-not-done NotBlocks = refl
refusal-not-done BadCheck = refl
refusal-not-done OutOfTurn = refl
refusal-not-done BadUsed = refl
refusal-not-done NotZero = refl
refusal-not-done NoRoom = refl

-- done is the one answer that has its number
pub done-is : (a : Answer) → is_done a ≡ true → a ≡ done
done-is (Ok _) h = refl
done-is (Err r) h = let n = refusal-not-done r in cc

-- what a call answers that returned Ok, or Err
pub ok-done : {a : Answer} {u : ⊤} → Ok u ≡ a → is_done a ≡ true
unfolding is_done
ok-done e = ap is_done (sym e)

pub err-refused : {a : Answer} {r : Refusal} → Err r ≡ a → is_done a ≡ false
err-refused {r = r} e = ap is_done (sym e) ∙ refusal-not-done r

pub ok-is-done : (a : Answer) → is_ok a ≡ is_done a
ok-is-done (Ok _) = sym (ok-done refl)
ok-is-done (Err r) = sym (refusal-not-done r)

-- the answer by its number, both ways
pub done-number : (a : Answer) → is_done a ≡ true → answer_number a ≡ answer_number done
unfolding is_done
done-number a h = eqb-true (answer_number a) (answer_number done) h

pub number-done : (a : Answer) → answer_number a ≡ answer_number done → is_done a ≡ true
unfolding is_done
number-done a h = eq-eqb (answer_number a) (answer_number done) h
