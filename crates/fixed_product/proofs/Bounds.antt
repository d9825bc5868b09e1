-- "`mul_fixed32_adapt` stays within 2^29 for all 32-bit factors at shift 4 and up, and at every shift when the second factor is not negative"; "The
-- product of its shifted factors stays within 2^30" (document 01, Colour parameters). Assumes nothing.
use mathlib.Core.Path.{◌≡◌, refl, sym, ap, ◌∙◌, subst}
use mathlib.Core.Logic.{◌⊎◌, inl, inr, ⊎_elim}
use Prim.Native.Nat.{ℕ, ◌+◌, ◌-◌, ◌*◌, ◌/◌, ◌^◌, ◌≤◌, ◌<◌}
use native.Mathlib.Omega.{arith}
use native.Mathlib.Nat as N
use lib.Pow.{pow-add}
use lib.Count.{count_leading_zeros}
use lib.IntN.{ℤ, pos, negsuc, nat_abs}
use lib.Signed.{shr_z, mag}
use mir.Syntax.{w32}
use mir.Val.{SFits}
use Rattle.signed.proofs.Bound.{abs-times, sfits-abs}
use Rattle.fixed_product.specs.Product.{ilog2, digits, over, narrow, rounded, mul_fixed}
use Rattle.signed.proofs.Naturals.{either, pow-le}
use Rattle.fixed_product.proofs.Shift.{digits-most, shr-pow, shr-pow-pos}
use Rattle.fixed_product.proofs.Rounding.{rounded-half, rounded-le}

mag-abs : (z : ℤ) → mag z ≤ nat_abs z
mag-abs (pos n) = N.le_refl n
mag-abs (negsuc n) = omega arith

-- so many digits, and no more than 31 of them, above the sign
pub record Digits (z : ℤ) (d : ℕ) : Type 0 where
  pub n : ℕ
  pub holds : mag z < 2 ^ n
  pub fewer : n ≤ d
  pub least : 1 ≤ d
  pub most : n ≤ 31
  pub all : d ≤ 32
  pub abs : nat_abs z < 2 ^ d

pub digits_of : (z : ℤ) → SFits w32 z → Digits z (digits z)
digits_of z f =
    let h : nat_abs z < 2 ^ 32 = omega (arith, f.sfits, abs_mag z) in
    let d = digits-most z h in
    go d (either (digits z) 31)
  where
    abs_mag : (z : ℤ) → nat_abs z ≤ mag z + 1
    abs_mag (pos n) = omega arith
    abs_mag (negsuc n) = omega arith

    go : (nat_abs z < 2 ^ digits z) × (digits z ≤ 32) × (1 ≤ digits z) → (digits z ≤ 31) ⊎ (31 < digits z) → Digits z (digits z)
    go d (inl l) = record { n = digits z; holds = omega (arith, mag-abs z); fewer = omega arith; least = omega arith; most = l; all = d.1; abs = d.0 }
    go d (inr l) = record { n = 31; holds = f.sfits; fewer = omega arith; least = omega arith; most = omega arith; all = d.1; abs = d.0 }

module _ (a b : ℤ) (fa : SFits w32 a) (fb : SFits w32 b) where
  narrow-abs : nat_abs (narrow a b) ≡ nat_abs (shr_z a (2 ^ (over a b / 2))) * nat_abs (shr_z b (2 ^ (over a b - over a b / 2)))
  unfolding narrow
  narrow-abs = abs-times (shr_z a (2 ^ (over a b / 2))) (shr_z b (2 ^ (over a b - over a b / 2)))

  -- what is known of the shifted product: 2 ^ e bounds it, and e is 30 only where three digits are over and the second factor is shifted out
  record Narrow : Type 0 where
    e : ℕ
    bound : nat_abs (narrow a b) ≤ 2 ^ e
    most : e ≤ 30
    rare : (e ≤ 29) ⊎ ((over a b ≡ 3) × (digits b ≤ over a b - over a b / 2))

  few : Narrow
  unfolding over
  few =
      let da = digits_of a fa in
      let db = digits_of b fb in
      let o = over a b in
      let s = o / 2 in
      let e = (da.n - s) + (db.n - (o - s)) in
      let m : nat_abs (narrow a b) ≤ 2 ^ e =
      subst (λ (x : ℕ). nat_abs (narrow a b) ≤ x) (sym (pow-add 2 (da.n - s) (db.n - (o - s))))
      (subst (λ (x : ℕ). x ≤ 2 ^ (da.n - s) * 2 ^ (db.n - (o - s))) (sym narrow-abs)
      (N.mul-le-mul (shr-pow a da.n s da.holds) (shr-pow b db.n (o - s) db.holds))) in
      record { e = e; bound = m; most = omega arith; rare = ⊎_elim (λ l. inl l) (λ (l : 29 < e). inr (omega arith)) (either e 29) }

  -- a second factor that is shifted out and is not negative is 0
  out : (n : ℕ) → b ≡ pos n → digits b ≤ over a b - over a b / 2 → nat_abs (narrow a b) ≡ 0
  out n e l =
      let s = over a b - over a b / 2 in
      let db = digits_of b fb in
      let h : n / 2 ^ s < 2 ^ (digits b - s) = shr-pow-pos n (digits b) s (subst (λ (z : ℤ). nat_abs z < 2 ^ digits b) e db.abs) in
      let z : digits b - s ≡ 0 = omega arith in
      let q : n / 2 ^ s < 1 = subst (λ (k : ℕ). n / 2 ^ s < 2 ^ k) z h in
      let w : nat_abs (shr_z b (2 ^ s)) ≡ 0 = ap (λ (x : ℤ). nat_abs (shr_z x (2 ^ s))) e ∙ omega arith in
      narrow-abs ∙ ap (λ (x : ℕ). nat_abs (shr_z a (2 ^ (over a b / 2))) * x) w ∙ N.mul-zero _

  -- the product of the shifted factors stays within 2 ^ 30
  pub narrow-30 : nat_abs (narrow a b) ≤ 2 ^ 30
  narrow-30 = let f = few in N.le_trans f.bound (pow-le f.most)

  pub narrow-fits : SFits w32 (narrow a b)
  narrow-fits = sfits-abs w32 (narrow a b) (omega (arith, narrow-30))

  -- and so does the result
  pub mul-30 : (k : ℕ) → nat_abs (mul_fixed a b k) ≤ 2 ^ 30
  unfolding mul_fixed
  mul-30 k = rounded-le (narrow a b) (2 ^ 30) (k - over a b) narrow-30

  small : (f : Narrow) → (k : ℕ) → f.e ≤ 29 → nat_abs (mul_fixed a b k) ≤ 2 ^ 29
  unfolding mul_fixed
  small f k l = rounded-le (narrow a b) (2 ^ 29) (k - over a b) (N.le_trans f.bound (pow-le l))

  -- at shift 4 and up it is within 2 ^ 29
  pub mul-late : (k : ℕ) → 4 ≤ k → nat_abs (mul_fixed a b k) ≤ 2 ^ 29
  unfolding mul_fixed
  mul-late k h =
      let f = few in
      ⊎_elim (λ l. small f k l) (λ l. rounded-half (narrow a b) (2 ^ 29) (k - over a b) (omega arith) (omega (arith, narrow-30))) f.rare

  -- at every shift, where the second factor is not negative
  pub mul-pos : (n k : ℕ) → b ≡ pos n → nat_abs (mul_fixed a b k) ≤ 2 ^ 29
  unfolding mul_fixed
  mul-pos n k e =
      let f = few in
      ⊎_elim (λ l. small f k l) (λ l. rounded-le (narrow a b) (2 ^ 29) (k - over a b) (omega (arith, out n e l.1))) f.rare

  pub mul-fits : (k : ℕ) → SFits w32 (mul_fixed a b k)
  mul-fits k = sfits-abs w32 (mul_fixed a b k) (omega (arith, mul-30 k))

-- "at shift 0, -2147483647 by -1 gives 2^30"
pub largest : mul_fixed (negsuc 2147483646) (negsuc 0) 0 ≡ pos 1073741824
unfolding mul_fixed rounded narrow over digits ilog2 count_leading_zeros
largest = refl
