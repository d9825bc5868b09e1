-- How large a result can be, whatever the signs. Each operation has a law on `nat_abs`, which `omega` takes, and one on `Bound`, whose bounds are
-- numerals that compute; `b-fits` then shows that a step fits its width, and `back` that it is read back from its bits. Assumes nothing.
use mathlib.Core.Path.{◌≡◌, refl, sym, ◌∙◌, ap, subst}
use mathlib.Core.Bool.{true}
use mathlib.Core.Logic.{⊎_elim}
use Prim.Native.Nat.{ℕ, zero, suc, ◌+◌, ◌*◌, ◌^◌, ◌≤◌, ◌<◌}
use native.Mathlib.Nat.{mul-le-mul, div-le_self, le_refl, le_trans}
use native.Mathlib.Omega.{arith}
use lib.Dec.{T, ltb, leb, ltb→lt, le→leb, lt→ltb}
use lib.IntN.{ℤ, pos, negsuc, neg_ℤ, nat_abs, ◌+ℤ◌, ◌-ℤ◌, ◌*ℤ◌}
use lib.Signed.{shr_z, le_z}
use lib.Ieee.{binary32, in_float}
use mir.Syntax.{Width}
use mir.Val.{SFits, hbits, to_z, of_z}
use mir.ValLaws.{to_z-of_z}
use mir.Facts.{sfits_widen}
use Rattle.signed.proofs.Parts.{up, dn, same, sfits, add, sub, neg, abs, one}
use Rattle.signed.proofs.Order.{le_z-true}

-- ---- nat_abs
pub abs-add : (x y : ℤ) → nat_abs (x +ℤ y) ≤ nat_abs x + nat_abs y
abs-add x y =
    let r = x +ℤ y in
    ⊎_elim (λ z. omega (arith, add x y, abs x, abs y, abs r)) (λ z. omega (arith, add x y, abs x, abs y, abs r)) (one r)

pub abs_neg : (y : ℤ) → nat_abs (neg_ℤ y) ≡ nat_abs y
abs_neg y = omega (arith, abs y, abs (neg_ℤ y), neg y)

pub abs-sub : (x y : ℤ) → nat_abs (x -ℤ y) ≤ nat_abs x + nat_abs y
abs-sub x y = omega (arith, abs-add x (neg_ℤ y), abs_neg y)

pub abs-times : (x y : ℤ) → nat_abs (x *ℤ y) ≡ nat_abs x * nat_abs y
abs-times (pos a) (pos b) = refl
abs-times (pos a) (negsuc b) = abs_neg (pos (a * suc b))
abs-times (negsuc a) (pos b) = abs_neg (pos (suc a * b))
abs-times (negsuc a) (negsuc b) = refl

pub abs-shr : (z : ℤ) (m : ℕ) → nat_abs (shr_z z m) ≤ nat_abs z
abs-shr (pos a) m = div-le_self a m
abs-shr (negsuc a) m = omega (arith, div-le_self a m)

pub abs-swap : (x y : ℤ) → nat_abs (x -ℤ y) ≡ nat_abs (y -ℤ x)
abs-swap x y = let e : x -ℤ y ≡ neg_ℤ (y -ℤ x) = same _ _ (omega (arith, sub x y, sub y x, neg (y -ℤ x))) in ap nat_abs e ∙ abs_neg (y -ℤ x)

-- a number that is not below 0, one that is not above, and a difference whose sign a test has shown
pub not_neg : (z : ℤ) → dn z ≤ up z → z ≡ pos (nat_abs z)
not_neg (pos n) h = refl
not_neg (negsuc n) h = absurd (omega arith)

pub not-pos : (z : ℤ) → up z ≤ dn z → z ≡ neg_ℤ (pos (nat_abs z))
not-pos (pos zero) h = refl
not-pos (pos (suc n)) h = absurd (omega arith)
not-pos (negsuc n) h = refl

pub sub-down : (x y : ℤ) → le_z x y ≡ true → x -ℤ y ≡ neg_ℤ (pos (nat_abs (x -ℤ y)))
sub-down x y h = not-pos (x -ℤ y) (omega (arith, le_z-true x y h, sub x y))

-- ---- Bound
pub record Bound (m : ℕ) (z : ℤ) : Type 0 where
  pub most : nat_abs z ≤ m

pub b-pos : {m : ℕ} (n : ℕ) → n ≤ m → Bound m (pos n)
b-pos n h = record { most = h }

pub b-abs : {m : ℕ} {z : ℤ} → nat_abs z ≤ m → Bound m z
b-abs h = record { most = h }

pub b-lit : (n : ℕ) → Bound n (pos n)
b-lit n = b-pos n (le_refl n)

pub b-add : {m n : ℕ} {a b : ℤ} → Bound m a → Bound n b → Bound (m + n) (a +ℤ b)
b-add {m} {n} {a} {b} h k = record { most = omega (arith, abs-add a b, h.most, k.most) }

pub b-sub : {m n : ℕ} {a b : ℤ} → Bound m a → Bound n b → Bound (m + n) (a -ℤ b)
b-sub {m} {n} {a} {b} h k = record { most = omega (arith, abs-sub a b, h.most, k.most) }

pub b-mul : {m n : ℕ} {a b : ℤ} → Bound m a → Bound n b → Bound (m * n) (a *ℤ b)
b-mul {m} {n} {a} {b} h k = record { most = subst (λ (x : ℕ). x ≤ m * n) (sym (abs-times a b)) (mul-le-mul h.most k.most) }

pub b-shr : {m : ℕ} {z : ℤ} (k : ℕ) → Bound m z → Bound m (shr_z z k)
b-shr {m} {z} k h = record { most = le_trans (abs-shr z k) h.most }

-- ---- what fits a width
pub sfits-abs : (w : Width) (z : ℤ) → nat_abs z < 2 ^ hbits w → SFits w z
sfits-abs w z h = sfits w z (omega (arith, abs z)) (omega (arith, abs z))

pub b-fits : (w : Width) {m : ℕ} {z : ℤ} → Bound m z → T (ltb m (2 ^ hbits w)) → SFits w z
b-fits w {m} {z} h t = sfits-abs w z (omega (arith, ltb→lt m (2 ^ hbits w) t, h.most))

-- what a local holds, read back from its bits: any number that fits, and a natural that was cast to a signed type
pub back : (w : Width) {z : ℤ} → SFits w z → to_z w (of_z w z) ≡ z
back w {z} h = to_z-of_z w z h

pub back-abs : (w : Width) (z : ℤ) → nat_abs z < 2 ^ hbits w → to_z w (of_z w z) ≡ z
back-abs w z h = back w {z = z} (sfits-abs w z h)

pub back-pos : (w : Width) (n : ℕ) → n < 2 ^ hbits w → to_z w n ≡ pos n
back-pos w n h = back w {z = pos n} (record { sfits = h })

-- a signed number cast to a wider signed type: `widens` answers the cast, `widened` what it gives; v wide, w narrow
module _ (v w : Width) {z : ℤ} (narrower : T (leb (hbits w) (hbits v))) (fits : SFits w z) where
  pub widens : SFits v (to_z w (of_z w z))
  widens = subst (SFits v) (sym (back w fits)) (sfits_widen narrower fits)

  pub widened : to_z v (of_z v (to_z w (of_z w z))) ≡ z
  widened = ap (λ (y : ℤ). to_z v (of_z v y)) (back w fits) ∙ back v (sfits_widen narrower fits)

-- a small whole number is an f32, whose sample it is
pub exact : (z : ℤ) → nat_abs z ≤ 2 ^ 24 → T (in_float binary32 z)
unfolding in_float
exact (pos n) h = le→leb n (2 ^ 24) h
exact (negsuc n) h = lt→ltb n (2 ^ 24) h
