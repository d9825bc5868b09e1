-- "The short product in `predict_block` equals it for all factors" (document 01, Colour parameters): with a second factor below the limit no digit is
-- over, so the product is rounded as it is; and how many are over with a factor in 0..4095. Assumes nothing.
use mathlib.Core.Path.{◌≡◌, refl, sym, ap, ap₂, ◌∙◌, subst}
use mathlib.Core.Bool.{Bool, true, false, cond}
use mathlib.Core.Logic.{◌⊎◌, inl, inr, ⊎_elim}
use Prim.Native.Nat.{ℕ, zero, suc, ◌+◌, ◌-◌, ◌*◌, ◌/◌, ◌^◌, ◌≤◌, ◌<◌}
use native.Mathlib.Omega.{arith}
use native.Mathlib.Nat as N
use lib.Dec.{ltb}
use lib.Pow.{pow-add}
use lib.IntN.{ℤ, pos, negsuc, neg_ℤ, nat_abs, ◌*ℤ◌}
use lib.Signed.{shr_z}
use mir.Syntax.{w32}
use mir.Val.{SFits}
use borrow.Author.Tests.{le-leb, lt-leb, ltb-true}
use Rattle.signed.specs.Range.{inside}
use Rattle.signed.proofs.Range.{inside-abs, inside-pos}
use Rattle.signed.proofs.Bound.{abs-times}
use Rattle.fixed_product.specs.Product.{ilog2, digits, over, narrow, signed, near, rounded, mul_fixed, short_limit}
use Rattle.fixed_product.specs.Short.{term}
use Rattle.signed.proofs.Naturals.{either, pow-le, pow_below}
use Rattle.fixed_product.proofs.Shift.{ilog2-is, ilog2-zero}
use Rattle.fixed_product.proofs.Rounding.{rounded-near, near-zero}
use Rattle.fixed_product.proofs.Bounds.{digits_of}

pub limit-few : (a : ℤ) → digits a ≤ 28 → short_limit a ≡ 2 ^ (29 - digits a)
unfolding short_limit
limit-few a h = simp (le-leb (digits a) 28 h)

pub limit-none : (a : ℤ) → 28 < digits a → short_limit a ≡ 0
unfolding short_limit
limit-none a h = simp (lt-leb (digits a) 28 h)

-- n < 2 ^ k has at most k digits, for 1 ≤ k
pub digits-few : (n k : ℕ) → 1 ≤ k → n < 2 ^ k → n < 2 ^ 32 → digits (pos n) ≤ k
unfolding digits
digits-few n k h l m =
    ⊎_elim (λ (z : n ≡ 0). omega (arith, ap ilog2 z ∙ ilog2-zero))
    (λ (p : 0 < n). let g = (ilog2-is n p m).0.low in omega (arith, pow_below (ilog2 n) k (N.lt_of_le_of_lt g l))) (N.eq-zero-or-pos n)

-- a factor in 0..4095 has at most 12 digits, so that at most 15 are over
pub digits-twelve : (b : ℤ) → inside (pos 4095) b ≡ true → digits b ≤ 12
digits-twelve b e =
    let l = inside-abs 4095 b e in
    subst (λ (z : ℤ). digits z ≤ 12) (sym (inside-pos 4095 b e)) (digits-few (nat_abs b) 12 (omega arith) (omega arith) (omega arith))

pub over-few : (a b : ℤ) → SFits w32 a → inside (pos 4095) b ≡ true → over a b ≤ 15
unfolding over
over-few a b f e = omega (arith, digits-twelve b e, (digits_of a f).all)

shr_one : (z : ℤ) → shr_z z 1 ≡ z
shr_one (pos n) = ap pos (N.div-one n)
shr_one (negsuc n) = ap negsuc (N.div-one n)

narrow-plain : (a b : ℤ) → over a b ≡ 0 → narrow a b ≡ a *ℤ b
unfolding narrow
narrow-plain a b e = ap (λ (o : ℕ). shr_z a (2 ^ (o / 2)) *ℤ shr_z b (2 ^ (o - o / 2))) e ∙ ap₂ ◌*ℤ◌ (shr_one a) (shr_one b)

-- the product's sign is the first factor's, or the product is 0
signed-down : (x q : ℕ) → (x ≡ 0 → q ≡ 0) → signed (neg_ℤ (pos x)) q ≡ neg_ℤ (pos q)
signed-down zero q h = ap pos (h refl) ∙ ap (λ (i : ℕ). neg_ℤ (pos i)) (sym (h refl))
signed-down (suc x) q h = refl

pub signed_mul : (a : ℤ) (n k : ℕ) → 1 ≤ k → signed (a *ℤ pos n) (near (nat_abs a * n) k) ≡ signed a (near (nat_abs a * n) k)
signed_mul (pos m) n k h = refl
signed_mul (negsuc m) n k h = signed-down (suc m * n) _ (λ z. ap (λ (x : ℕ). near x k) z ∙ near-zero k h)

pub record Short (a : ℤ) (n : ℕ) : Type 0 where
  pub small : nat_abs a * n ≤ 2 ^ 29
  pub is : signed a (near (nat_abs a * n) 16) ≡ mul_fixed a (pos n) 16

pub short : (a : ℤ) (n : ℕ) → SFits w32 a → n < short_limit a → Short a n
unfolding over mul_fixed
short a n f h = go (either (digits a) 28)
  where
    go : (digits a ≤ 28) ⊎ (28 < digits a) → Short a n
    go (inr l) = absurd (omega (arith, limit-none a l))
    go (inl l) =
        let d = digits_of a f in
        let b : n < 2 ^ (29 - digits a) = subst (λ (m : ℕ). n < m) (limit-few a l) h in
        let w = digits-few n (29 - digits a) (omega arith) b (N.lt_of_lt_of_le b (pow-le {i = 29 - digits a} {j = 32} (omega arith))) in
        let o : over a (pos n) ≡ 0 = omega arith in
        let e : digits a + (29 - digits a) ≡ 29 = omega arith in
        record {
          small =
              subst (λ (m : ℕ). nat_abs a * n ≤ m) (sym (pow-add 2 (digits a) (29 - digits a)) ∙ ap (λ (i : ℕ). 2 ^ i) e)
              (N.mul-le-mul (N.le_of_lt d.abs) (N.le_of_lt b));
          is =
              sym (ap₂ (λ (p : ℤ) (i : ℕ). rounded p (16 - i)) (narrow-plain a (pos n) o) o
              ∙ rounded-near (a *ℤ pos n) 16 (omega arith) (omega arith)
              ∙ ap (λ (m : ℕ). signed (a *ℤ pos n) (near m 16)) (abs-times a (pos n)) ∙ signed_mul a n 16 (omega arith));
        }

-- "The short product in `predict_block` equals it for all factors"
pub term_is : (a b : ℤ) → SFits w32 a → term a b ≡ mul_fixed a b 16
unfolding term
term_is a (negsuc n) f = refl
term_is a (pos n) f = go (ltb n (short_limit a)) refl
  where
    go : (t : Bool) → ltb n (short_limit a) ≡ t → cond t (signed a (near (nat_abs a * n) 16)) (mul_fixed a (pos n) 16) ≡ mul_fixed a (pos n) 16
    go true e = (short a n f (ltb-true n (short_limit a) e)).is
    go false e = refl
