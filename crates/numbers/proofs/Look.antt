-- Laws of the lookup, once for every enum: what it finds has the number that was looked for, and it finds a case exactly where the number is among
-- the cases'. Assumes nothing.
use mathlib.Core.Path.{◌≡◌, refl, sym, ◌∙◌, ap, subst}
use mathlib.Core.Bool.{Bool, true, false, cond, ◌||◌, true≢false}
use mathlib.Core.List.{List, [], ◌∷◌}
use Prim.Native.Nat.{ℕ}
use native.Mathlib.Omega.{arith}
use lib.Dec.{eqb}
use borrow.Author.Tests.{eqb-true}
use Rattle.std.specs.Prelude.{Result, Ok, Err, IsErrAnd, IsOk}
use Rattle.std.proofs.lemmas.Result.{err_from_is_err_and}
use Rattle.numbers.specs.Look.{look, among}

-- cases of E as the answer F holds them: two answers that hold a case are equal only where the cases are, and `none` holds none
module _ {E F : Type 0} (number : E → ℕ) (is : E → F) (none : F) (same : (a b : E) → is a ≡ is b → a ≡ b) (other : (e : E) → none ≡ is e → ⊥) where
  pub look-back : (es : List E) (n : ℕ) (e : E) → look number is none es n ≡ is e → number e ≡ n
  look-back [] n e h = absurd (other e h)
  look-back (d ∷ es) n e h = go (eqb n (number d)) (eqb-true n (number d)) (look-back es n e) h
    where
      go : (t : Bool) → (t ≡ true → n ≡ number d) → (look number is none es n ≡ is e → number e ≡ n)
          → cond t (is d) (look number is none es n) ≡ is e → number e ≡ n
      go true y later k = ap number (sym (same d e k)) ∙ sym (y refl)
      go false y later k = later k

  pub look-yes : (es : List E) (n : ℕ) (e : E) → look number is none es n ≡ is e → among number es n ≡ true
  look-yes [] n e h = absurd (other e h)
  look-yes (d ∷ es) n e h = go (eqb n (number d)) (look-yes es n e) h
    where
      go : (t : Bool) → (look number is none es n ≡ is e → among number es n ≡ true)
          → cond t (is d) (look number is none es n) ≡ is e → (t || among number es n) ≡ true
      go true later k = refl
      go false later k = later k

-- what holds of each case's number holds of a number that is among them
abbrev pub Every : {E : Type 0} → (E → Type 0) → List E → Type 0
Every P [] = Unit
Every P (e ∷ es) = P e × Every P es

pub among-all : {E : Type 0} (number : E → ℕ) (P : ℕ → Type 0) (es : List E) (n : ℕ) → Every (λ e. P (number e)) es → among number es n ≡ true → P n
among-all number P [] n all h = absurd (true≢false (sym h))
among-all number P (e ∷ es) n all h = go (eqb n (number e)) (eqb-true n (number e)) (among-all number P es n all.1) h
  where
    go : (t : Bool) → (t ≡ true → n ≡ number e) → (among number es n ≡ true → P n) → (t || among number es n) ≡ true → P n
    go true y later k = subst P (sym (y refl)) all.0
    go false y later k = later k

-- a case that is found, or a refusal
module _ {E R : Type 0} where
  pub ok-same : (a b : E) → ◌≡◌ {A = Result E R} (Ok a) (Ok b) → a ≡ b
  ok-same a b h = grind arith

  pub err-ok : (r : R) (e : E) → ◌≡◌ {A = Result E R} (Err r) (Ok e) → ⊥
  err-ok r e h = grind arith

  pub err-same : (r q : R) → ◌≡◌ {A = Result E R} (Err r) (Err q) → r ≡ q
  err-same r q h = grind arith

-- a lookup finds no case where the number is not among the cases'
pub look-no : {E R : Type 0} (number : E → ℕ) (none : R) (es : List E) (n : ℕ) {r : R} → look number Ok (Err none) es n ≡ Err r → among number es n ≡ false
look-no number none [] n h = refl
look-no number none (d ∷ es) n {r = r} h = go (eqb n (number d)) (look-no number none es n) h
  where
    go : (t : Bool) → (look number Ok (Err none) es n ≡ Err r → among number es n ≡ false)
        → cond t (Ok d) (look number Ok (Err none) es n) ≡ Err r → (t || among number es n) ≡ false
    go true later h = absurd (err-ok r d (sym h))
    go false later h = later h

-- and then its refusal is the one that stands for none
pub look-refused : {E R : Type 0} (number : E → ℕ) (none : R) (es : List E) (n : ℕ) {r : R} → look number Ok (Err none) es n ≡ Err r → r ≡ none
look-refused number none [] n {r = r} h = err-same r none (sym h)
look-refused number none (d ∷ es) n {r = r} h = go (eqb n (number d)) (look-refused number none es n) h
  where
    go : (t : Bool) → (look number Ok (Err none) es n ≡ Err r → r ≡ none) → cond t (Ok d) (look number Ok (Err none) es n) ≡ Err r → r ≡ none
    go true later h = absurd (err-ok r d (sym h))
    go false later h = later h

-- a lookup that a `?` ends is a rule that is broken
pub look-else : {E R A : Type 0} (number : E → ℕ) (none : R) (es : List E) (n : ℕ) {r : R} (later : Result A R)
    → Err r ≡ look number Ok (Err none) es n → Err r ≡ cond (among number es n) later (Err none)
look-else number none [] n {r = r} later h = ap Err (err-same r none h)
look-else number none (d ∷ es) n {r = r} later h = go (eqb n (number d)) (look-else number none es n later) h
  where
    go : (t : Bool) → (Err r ≡ look number Ok (Err none) es n → Err r ≡ cond (among number es n) later (Err none))
        → Err r ≡ cond t (Ok d) (look number Ok (Err none) es n) → Err r ≡ cond (t || among number es n) later (Err none)
    go true next h = absurd (err-ok r d h)
    go false next h = next h

-- and one that finds a case is a rule that is kept
pub look-found : {E R : Type 0} (number : E → ℕ) (none : R) (es : List E) (n : ℕ) → among number es n ≡ true → IsOk (look number Ok (Err none) es n)
look-found number none [] n h = absurd (true≢false (sym h))
look-found number none (d ∷ es) n h = go (eqb n (number d)) (look-found number none es n) h
  where
    go : (t : Bool) → (among number es n ≡ true → IsOk (look number Ok (Err none) es n)) → (t || among number es n) ≡ true
        → IsOk (cond t (Ok d) (look number Ok (Err none) es n))
    go true next h = refl
    go false next h = next h

-- what a `?` returns is the refusal that it found
pub passed_on : {A R : Type 0} {e : R} (r : Result A R) → IsErrAnd r (λ y. y ≡ e) → r ≡ Err e
passed_on r h = let p = err_from_is_err_and r h in p.1 ∙ ap Err p.2
