-- Rounding halves away from 0 by a sum and one shift, which rounds down: a negative number has one less added (document 01, Colour parameters).
-- Assumes nothing.
use mathlib.Core.Path.{◌≡◌, sym, ap, ap₂, ◌∙◌}
use mathlib.Core.Logic.{⊎_elim}
use Prim.Native.Nat.{ℕ, suc, ◌+◌, ◌-◌, ◌/◌, ◌^◌, ◌≤◌, ◌<◌}
use native.Mathlib.Omega.{arith}
use native.Mathlib.Numerals.{add-one}
use native.Mathlib.Nat as N
use lib.IntN.{ℤ, pos, negsuc, neg_ℤ, nat_abs, ◌+ℤ◌}
use lib.Signed.{shr_z}
use Rattle.signed.proofs.Parts.{same, neg, add}
use Rattle.fixed_product.specs.Product.{rounded}
use Rattle.signed.proofs.Naturals.{either}
use Rattle.fixed_product.proofs.Rounding.{near-is, rounded-near}

pub double : (k : ℕ) → 1 ≤ k → 2 ^ k ≡ 2 ^ (k - 1) + 2 ^ (k - 1)
double k h = let e : k ≡ suc (k - 1) = omega arith in ap (λ (i : ℕ). 2 ^ i) e ∙ omega (arith, N.pow-succ' 2 (k - 1))

-- a number that is not above 0, by the half h of a step and one less added
pub down : (x h : ℕ) → 1 ≤ h → shr_z (neg_ℤ (pos x) +ℤ pos (h - 1)) (h + h) ≡ neg_ℤ (pos ((x + h) / (h + h)))
down x h l = ⊎_elim large small (either h x)
  where
    large : h ≤ x → shr_z (neg_ℤ (pos x) +ℤ pos (h - 1)) (h + h) ≡ neg_ℤ (pos ((x + h) / (h + h)))
    large p =
        let z : neg_ℤ (pos x) +ℤ pos (h - 1) ≡ negsuc (x - h) = same _ _ (omega (arith, neg (pos x), add (neg_ℤ (pos x)) (pos (h - 1)))) in
        let n : x + h ≡ (x - h) + (h + h) = omega arith in
        let q : (x + h) / (h + h) ≡ suc ((x - h) / (h + h)) = ap (λ (i : ℕ). i / (h + h)) n ∙ N.add-div_right (x - h) (omega arith) ∙ add-one ((x - h) / (h + h)) in
        ap (λ (i : ℤ). shr_z i (h + h)) z ∙ sym (ap (λ (i : ℕ). neg_ℤ (pos i)) q)

    small : x < h → shr_z (neg_ℤ (pos x) +ℤ pos (h - 1)) (h + h) ≡ neg_ℤ (pos ((x + h) / (h + h)))
    small p =
        let z : neg_ℤ (pos x) +ℤ pos (h - 1) ≡ pos (h - 1 - x) = same _ _ (omega (arith, neg (pos x), add (neg_ℤ (pos x)) (pos (h - 1)))) in
        let o : (h - 1 - x) / (h + h) ≡ 0 = N.div-eq_of_lt (omega arith) in
        let q : (x + h) / (h + h) ≡ 0 = N.div-eq_of_lt (omega arith) in
        ap (λ (i : ℤ). shr_z i (h + h)) z ∙ ap pos o ∙ sym (ap (λ (i : ℕ). neg_ℤ (pos i)) q)

-- the sum of a negative number, half a step and -1
less_one : (n h : ℕ) → 1 ≤ h → negsuc n +ℤ pos h +ℤ negsuc 0 ≡ negsuc n +ℤ pos (h - 1)
less_one n h l = same _ _ (omega (arith, add (negsuc n) (pos h), add (negsuc n +ℤ pos h) (negsuc 0), add (negsuc n) (pos (h - 1))))

-- the sign as a number: 0 or -1
pub sign_small : (p : ℤ) → nat_abs p ≤ 2 ^ 30 → nat_abs (shr_z p (2 ^ 31)) ≤ 1
sign_small (pos n) l = omega arith
sign_small (negsuc n) l = omega arith

pub away-is : (p : ℤ) (k : ℕ) → nat_abs p ≤ 2 ^ 30 → 1 ≤ k → k ≤ 29
    → shr_z (p +ℤ pos (2 ^ (k - 1)) +ℤ shr_z p (2 ^ 31)) (2 ^ k) ≡ rounded p k
away-is (pos n) k l h m =
    let z : n / 2 ^ 31 ≡ 0 = omega arith in
    ap (λ (i : ℕ). pos ((n + 2 ^ (k - 1) + i) / 2 ^ k)) z
    ∙ ap (λ (i : ℕ). pos (i / 2 ^ k)) (N.add-zero (n + 2 ^ (k - 1)))
    ∙ ap pos (near-is n k h)
    ∙ sym (rounded-near (pos n) k h m)
away-is (negsuc n) k l h m =
    let z : n / 2 ^ 31 ≡ 0 = omega arith in
    let half : 1 ≤ 2 ^ (k - 1) = N.one-le-pow (k - 1) 2 (N.zero-lt-suc 1) in
    ap (λ (i : ℕ). shr_z (negsuc n +ℤ pos (2 ^ (k - 1)) +ℤ negsuc i) (2 ^ k)) z
    ∙ ap₂ shr_z (less_one n (2 ^ (k - 1)) half) (double k h)
    ∙ down (suc n) (2 ^ (k - 1)) half
    ∙ ap (λ (i : ℕ). neg_ℤ (pos ((suc n + 2 ^ (k - 1)) / i))) (sym (double k h))
    ∙ ap (λ (i : ℕ). neg_ℤ (pos i)) (near-is (suc n) k h)
    ∙ sym (rounded-near (negsuc n) k h m)
