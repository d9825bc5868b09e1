-- A promise leaves no choice, and a call that is refused, or done, is one of the two sides of `lent`. Assumes nothing.
use mathlib.Core.Path.{◌≡◌, refl, sym, ◌∙◌, ap}
use mathlib.Core.Bool.{true, false, cond}
use Prim.Native.Nat.{ℕ}
use Rattle.std.specs.Prelude.{⊤, Ok, Err, IsErrAnd}
use Rattle.numbers.specs.declared.answer.Refusal.{Refusal}
use Rattle.numbers.proofs.Look.{passed_on}
use Rattle.numbers.specs.Answer.{Answer, answer_number, is_done}
use Rattle.numbers.proofs.Named.{done-is, ok-done, refusal-not-done}
use Rattle.refusals.specs.Promise.{lent, Promise}

-- "Show that any two results allowed by the same promise coincide": whatever the call, its answer's type and its memory
pub coincide : {R M : Type 0} {answer r r' : R} {memory after after' : M}
    → Promise answer memory r after → Promise answer memory r' after' → (r ≡ r') × (after ≡ after')
coincide p q = (p.answers ∙ sym q.answers, p.holds ∙ sym q.holds)

pub lent-refused : {M : Type 0} (answer : Answer) (done before : M) → is_done answer ≡ false → before ≡ lent answer done before
lent-refused answer done before e = sym (ap (λ t. cond t done before) e)

pub lent-done : {M : Type 0} (answer : Answer) (done before : M) → answer ≡ Ok tt → done ≡ lent answer done before
unfolding is_done
lent-done answer done before e = sym (ap (λ a. lent a done before) e)

-- a call that returns what its tests answered: refused, with its memory as it was, or done, with its memory written
pub refused : {M : Type 0} {answer r : Answer} (done before : M) → r ≡ answer → is_done r ≡ false → Promise answer (lent answer done before) r before
refused {answer = a} done before e n = record { answers = e; holds = lent-refused a done before (ap is_done (sym e) ∙ n) }

pub finished : {M : Type 0} {answer r : Answer} (done before : M) {after : M} → r ≡ answer → is_done r ≡ true → after ≡ done
    → Promise answer (lent answer done before) r after
finished {answer = a} {r = r} done before e y h = record { answers = e; holds = h ∙ lent-done a done before (sym e ∙ done-is r y) }

-- a call that passes a refusal on by `?` after its tests, with its memory as it was; and one that comes to Ok, with its memory written
pub passes-on : {M : Type 0} {answer : Answer} {e : Refusal} (r : Answer) (done before : M) → IsErrAnd r (λ y. y ≡ e) → Err e ≡ answer
    → Promise answer (lent answer done before) r before
passes-on r done before h e = let p = passed_on r h in refused done before (p ∙ e) (ap is_done p ∙ refusal-not-done _)

pub comes-to : {M : Type 0} {answer : Answer} {u : ⊤} (done before : M) {after : M} → Ok u ≡ answer → after ≡ done
    → Promise answer (lent answer done before) (Ok u) after
comes-to done before e h = finished done before e (ok-done refl) h

-- the same promise, of the answer's number
pub numbered : {M : Type 0} {answer a : Answer} {memory after : M} {r : ℕ} → Promise answer memory a after → r ≡ answer_number a
    → Promise (answer_number answer) memory r after
numbered p e = record { answers = e ∙ ap answer_number p.answers; holds = p.holds }
