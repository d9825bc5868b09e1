-- Bytes that are zero, one by one. Assumes nothing.
use mathlib.Core.Path.{◌≡◌, refl, sym, ap, ◌∙◌}
use mathlib.Core.Bool.{true, false, ◌&&◌}
use mathlib.Core.Logic.{⊎_elim}
use Prim.Native.Nat.{ℕ, zero, suc, ◌+◌, ◌-◌, ◌*◌, ◌<◌, max}
use native.Mathlib.Nat.{eq-or-lt_of_le, le_of_suc-le-suc}
use native.Mathlib.Omega.{arith}
use lib.Dec.{eqb}
use borrow.Author.Tests.{eqb-true, eq-eqb, ne_eqb}
use Rattle.signed.proofs.Range.{and_both}
use Rattle.block_image.specs.Rules.{all_zero, is_zero}
use Rattle.block_image.specs.declared.format.Format.{Format}

pub zero-at : (at : ℕ → ℕ) (from n : ℕ) → all_zero at from n ≡ true → (j : ℕ) → j < n → at (from + j) ≡ 0
unfolding all_zero
zero-at at from zero h j l = absurd (omega arith)
zero-at at from (suc n) h j l =
    let p = and_both (all_zero at from n) _ h in
    ⊎_elim (λ e. ap (λ i. at (from + i)) e ∙ eqb-true _ _ p.1) (λ k. zero-at at from n p.0 j k) (eq-or-lt_of_le (le_of_suc-le-suc l))

pub zero-none : (at : ℕ → ℕ) (i : ℕ) → all_zero at i 0 ≡ true
unfolding all_zero
zero-none at i = refl

max-zero : (a b : ℕ) → eqb (max a b) 0 ≡ (eqb a 0 && eqb b 0)
max-zero zero zero = refl
max-zero zero (suc b) = ne_eqb (max 0 (suc b)) 0 (λ (e : max 0 (suc b) ≡ 0). omega arith) ∙ sym (ne_eqb (suc b) 0 (λ (e : suc b ≡ 0). omega arith))
max-zero (suc a) b = ne_eqb (max (suc a) b) 0 (λ (e : max (suc a) b ≡ 0). omega arith) ∙ (λ j. sym (ne_eqb (suc a) 0 (λ (e : suc a ≡ 0). omega arith)) j && eqb b 0)

-- their largest is zero, with one byte more
pub zero_more : (at : ℕ → ℕ) (i n largest : ℕ) → eqb largest 0 ≡ all_zero at i n → eqb (max largest (at (i + n))) 0 ≡ all_zero at i (suc n)
unfolding all_zero
zero_more at i n largest e = max-zero largest (at (i + n)) ∙ (λ j. e j && eqb (at (i + n)) 0)

pub zero-all : (at : ℕ → ℕ) (from n : ℕ) → ((j : ℕ) → j < n → at (from + j) ≡ 0) → all_zero at from n ≡ true
unfolding all_zero
zero-all at from zero h = refl
zero-all at from (suc n) h = rw (zero-all at from n (λ j l. h j (omega arith))) (eq-eqb (at (from + n)) 0 (h n (omega arith)))

-- 44 by its two parts
pub zero-first : (F : Format) (used : ℕ) (at : ℕ → ℕ) → all_zero at 8 F.zeros ≡ false → is_zero F used at ≡ false
zero-first F used at e = rw e

pub zero-second : (F : Format) (used : ℕ) (at : ℕ → ℕ) → all_zero at 8 F.zeros ≡ true
    → is_zero F used at ≡ all_zero at (8 + F.zeros + 2 * (used * F.words)) (2 * ((F.rows - used) * F.words))
zero-second F used at e = rw e
