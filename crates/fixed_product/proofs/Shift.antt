-- Powers of two, the highest set bit, and how large a shifted number is (document 01, Colour parameters). Assumes nothing.
use mathlib.Core.Path.{◌≡◌, refl, sym, ap, ap₂, ◌∙◌, subst}
use mathlib.Core.Logic.{◌⊎◌, inl, inr, ⊎_elim}
use Prim.Native.Nat.{ℕ, suc, ◌+◌, ◌-◌, ◌*◌, ◌/◌, ◌^◌, ◌≤◌, ◌<◌}
use native.Mathlib.Omega.{arith}
use native.Mathlib.Nat as N
use lib.Bits.{bit_or, or_step, or_zero_r}
use lib.Pow.{shr_lt}
use lib.Count.{count_leading_zeros, leading_top, leading_of_zero}
use lib.IntN.{ℤ, pos, negsuc, nat_abs}
use lib.Signed.{shr_z, mag, mag_shr}
use native.Mathlib.Numerals.{add-one}
use mir.Syntax.{w32}
use mir.Val.{SFits}
use Rattle.signed.proofs.Naturals.{pow-le, pow_below}
use Rattle.fixed_product.specs.Product.{ilog2, digits}

-- ---- the highest set bit
pub record Log (n k : ℕ) : Type 0 where
  pub low : 2 ^ k ≤ n
  pub high : n < 2 ^ suc k
  pub most : k ≤ 31

pub ilog2-is : (n : ℕ) → 0 < n → n < 2 ^ 32 → (Log n (ilog2 n)) × (count_leading_zeros 32 n + ilog2 n ≡ 31)
unfolding ilog2
ilog2-is n p h =
    let t = leading_top 32 n p h in
    let e : 31 - count_leading_zeros 32 n ≡ t.0 = omega arith in (
      record {
        low = subst (λ (k : ℕ). 2 ^ k ≤ n) (sym e) t.2;
        high = subst (λ (k : ℕ). n < 2 ^ suc k) (sym e) t.3;
        most = omega arith;
      },
      omega arith,
    )

-- the one k with 2 ^ k ≤ n < 2 * 2 ^ k
pub ilog2-by : (n k : ℕ) → 2 ^ k ≤ n → n < 2 * 2 ^ k → n < 2 ^ 32 → ilog2 n ≡ k
ilog2-by n k l g h =
    let p : 0 < n = omega (arith, N.one-le-pow k 2 (N.zero-lt-suc 1)) in
    let a = (ilog2-is n p h).0 in
    let j = ilog2 n in
    let up : k < suc j = pow_below k (suc j) (omega (arith, a.high)) in
    let dn : j < suc k = pow_below j (suc k) (omega (arith, a.low, N.pow-succ' 2 k)) in
    omega arith

pub ilog2-le : (n : ℕ) → ilog2 n ≤ 31
unfolding ilog2
ilog2-le n = omega arith

pub ilog2-zero : ilog2 0 ≡ 0
unfolding ilog2
ilog2-zero = simp leading_of_zero

ilog2-one : ilog2 1 ≡ 0
unfolding ilog2 count_leading_zeros
ilog2-one = refl

-- the last bit set moves the highest one only of 0
pub odd : (n : ℕ) → bit_or n 1 ≡ n / 2 * 2 + 1
odd n = or_step n 1 ∙ ap₂ (λ (x y : ℕ). x * 2 + y) (or_zero_r (n / 2)) (omega arith)

pub ilog2-odd : (n : ℕ) → n < 2 ^ 32 → ilog2 (bit_or n 1) ≡ ilog2 n
ilog2-odd n h = ap ilog2 (odd n) ∙ ⊎_elim none some (N.eq-zero-or-pos n)
  where
    none : n ≡ 0 → ilog2 (n / 2 * 2 + 1) ≡ ilog2 n
    none z = ap (λ (m : ℕ). ilog2 (m / 2 * 2 + 1)) z ∙ ilog2-one ∙ sym (ap ilog2 z ∙ ilog2-zero)

    some : 0 < n → ilog2 (n / 2 * 2 + 1) ≡ ilog2 n
    some p =
        let a = (ilog2-is n p h).0 in
        let b = (ilog2-is (n / 2 * 2 + 1) (omega arith) (omega arith)).0 in
        let k = ilog2 n in
        let j = ilog2 (n / 2 * 2 + 1) in
        let up : k < suc j = pow_below k (suc j) (omega (arith, a.low, b.high)) in
        let dn : j < suc k = pow_below j (suc k) (omega (arith, a.high, b.low, N.pow-succ' 2 k)) in
        omega arith

-- |z| has that many digits, whatever 32-bit number it is
pub digits-most : (z : ℤ) → nat_abs z < 2 ^ 32 → (nat_abs z < 2 ^ digits z) × (digits z ≤ 32) × (1 ≤ digits z)
unfolding digits
digits-most z h = go (nat_abs z) refl (N.eq-zero-or-pos (nat_abs z))
  where
    go : (n : ℕ) → nat_abs z ≡ n → (n ≡ 0) ⊎ (0 < n) → (nat_abs z < 2 ^ digits z) × (digits z ≤ 32) × (1 ≤ digits z)
    go n e (inl q) = (omega (arith, e, q, pow-le {i = 0} {j = digits z} (omega arith)), omega (arith, ilog2-le (nat_abs z)), omega arith)
    go n e (inr q) = let l = (ilog2-is (nat_abs z) (omega arith) h).0 in (simp add-one l.high, omega (arith, l.most), omega arith)

-- n < 2 ^ A: shifted by s, it is below 2 ^ (A - s)
pub shr-pow-pos : (n A s : ℕ) → n < 2 ^ A → n / 2 ^ s < 2 ^ (A - s)
shr-pow-pos n A s h = shr_lt (A - s) s (N.lt_of_lt_of_le h (pow-le (omega arith)))

-- -2 ^ A ≤ z < 2 ^ A: shifted by s, it is at most 2 ^ (A - s)
pub shr-pow : (z : ℤ) (A s : ℕ) → mag z < 2 ^ A → nat_abs (shr_z z (2 ^ s)) ≤ 2 ^ (A - s)
shr-pow (pos n) A s h = N.le_of_lt (shr-pow-pos n A s h)
shr-pow (negsuc n) A s h = shr-pow-pos n A s h

pub shr-fits : (z : ℤ) (m : ℕ) → SFits w32 z → SFits w32 (shr_z z m)
shr-fits z m f = record { sfits = N.lt_of_le_of_lt (mag_shr z m) f.sfits }
