-- What a run answers where 20 and 21 do not refuse, by the two tests of its order: what 22 and 23 say. Assumes nothing.
use mathlib.Core.Path.{◌≡◌, refl, ap}
use mathlib.Core.Logic.{◌↔◌}
use mathlib.Core.Bool.{Bool, true, false, cond}
use native.Mathlib.Omega.{arith}
use Rattle.numbers.specs.Answer.{answer_number, done, Answer}
use Rattle.numbers.specs.declared.answer.Refusal.TheVariants.{NotEachOnce, PairTurned}
use Rattle.reorder.specs.Test.{Decides}
use Rattle.reorder.proofs.Test.{fails}
use Rattle.std.specs.Prelude.{Err}

abbrev pub verdict : Bool → Bool → Answer
verdict once kept = cond once (cond kept done (Err PairTurned)) (Err NotEachOnce)

module _ (once kept : Bool) (O K : Type 0) (eo : Decides once O) (ek : Decides kept K) where
  pub verdict-22 : (verdict once kept ≡ Err NotEachOnce) ↔ (¬ O)
  verdict-22 = (to once kept refl, λ h. rw ((fails once O eo).1 h))
    where
      to : (a b : Bool) → once ≡ a → verdict a b ≡ Err NotEachOnce → ¬ O
      to true true p e = absurd (omega (arith, ap answer_number e))
      to true false p e = absurd (omega (arith, ap answer_number e))
      to false b p e = (fails once O eo).0 p

  pub verdict-23 : (verdict once kept ≡ Err PairTurned) ↔ (O × ¬ K)
  verdict-23 = (to once kept refl refl, λ h. rw (eo.1 h.0, (fails kept K ek).1 h.1))
    where
      to : (a b : Bool) → once ≡ a → kept ≡ b → verdict a b ≡ Err PairTurned → O × ¬ K
      to true true p q e = absurd (omega (arith, ap answer_number e))
      to true false p q e = (eo.0 p, (fails kept K ek).0 q)
      to false b p q e = absurd (omega (arith, ap answer_number e))
