-- What a call gives, or its refusal, both ways. Assumes nothing.
use mathlib.Core.Path.{◌≡◌, refl, sym, ap}
use Rattle.std.specs.Prelude.{Result, Ok, Err}
use Rattle.numbers.specs.Answer.{Answer, done}
use Rattle.numbers.specs.declared.answer.Refusal.{Refusal}
use Rattle.numbers.proofs.Look.{ok-same, err-ok, err-same}
use Rattle.refusals.specs.Ladder.{yields}

module _ {A : Type 0} where
  pub yields-done : {a : Answer} (x : A) → done ≡ a → Ok x ≡ yields a x
  yields-done x e = ap (λ a. yields a x) e

  pub yields-err : {a : Answer} {r : Refusal} (x : A) → Err r ≡ a → Err r ≡ yields a x
  yields-err x e = ap (λ a. yields a x) e

  -- and back
  pub yielded : (a : Answer) (x y : A) → yields a x ≡ Ok y → (a ≡ done) × (y ≡ x)
  yielded (Ok u) x y h = (refl, ok-same y x (sym h))
  yielded (Err q) x y h = absurd (err-ok q y h)

  pub yield-refused : (a : Answer) (x : A) {r : Refusal} → yields a x ≡ Err r → a ≡ Err r
  yield-refused (Ok u) x {r = r} h = absurd (err-ok r x (sym h))
  yield-refused (Err q) x {r = r} h = ap Err (err-same q r h)
