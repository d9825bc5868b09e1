-- What a number is rounded to, and how large that is (document 01, Colour parameters). Assumes nothing.
use mathlib.Core.Path.{◌≡◌, refl, sym, ap, ◌∙◌, subst}
use mathlib.Core.Bool.{Bool, true, false, cond}
use Prim.Native.Nat.{ℕ, zero, suc, ◌+◌, ◌-◌, ◌*◌, ◌/◌, ◌%◌, ◌^◌, ◌≤◌, ◌<◌}
use native.Mathlib.Omega.{arith}
use native.Mathlib.Nat as N
use lib.Pow.{shl_exact}
use lib.Dec.{ltb, lit<}
use lib.IntN.{ℤ, pos, negsuc, nat_abs}
use borrow.Author.Tests.{lt-ltb, le-ltb}
use Rattle.signed.proofs.Bound.{abs_neg}
use Rattle.fixed_product.specs.Product.{signed, near, rounded}

-- 1 << k
pub one_shl : (k : ℕ) → k ≤ 31 → (1 * 2 ^ k) % 2 ^ 32 ≡ 2 ^ k
one_shl k h = shl_exact {a = 1} 1 k 32 (lit< tt) (omega arith) ∙ N.one-mul (2 ^ k)

-- rounding by a digit or more halves
pub near-half : (n M k : ℕ) → n ≤ 2 * M → (n + 2 ^ k) / 2 ^ suc k ≤ M
near-half n M k l =
    let p = N.one-le-pow k 2 (N.zero-lt-suc 1) in
    let s : n + 2 ^ k < suc M * (2 * 2 ^ k) = omega (arith, N.mul-le-mul_right M p) in
    let s : n + 2 ^ k < suc M * 2 ^ suc k = subst (λ (x : ℕ). n + 2 ^ k < suc M * x) (sym (N.pow-succ' 2 k)) s in
    N.le_of_suc-le-suc ((N.div-lt_iff_lt-mul (N.one-le-pow (suc k) 2 (N.zero-lt-suc 1))).1 s)

signed-abs : (z : ℤ) (n : ℕ) → nat_abs (signed z n) ≡ n
signed-abs (pos m) n = refl
signed-abs (negsuc m) n = abs_neg (pos n)

far : (u : Bool) (p : ℤ) (n M : ℕ) → n ≤ M → nat_abs (cond u (pos 0) (signed p n)) ≤ M
far true p n M h = omega arith
far false p n M h = omega (arith, signed-abs p n)

pub rounded-zero : (p : ℤ) (k : ℕ) → k ≡ 0 → rounded p k ≡ p
unfolding rounded
rounded-zero p k h = ap (rounded p) h

pub rounded-far : (p : ℤ) (k : ℕ) → 29 < k → rounded p k ≡ pos 0
unfolding rounded
rounded-far p zero h = absurd (omega arith)
rounded-far p (suc k) h = simp (lt-ltb 29 (suc k) h)

pub rounded-near : (p : ℤ) (k : ℕ) → 1 ≤ k → k ≤ 29 → rounded p k ≡ signed p (near (nat_abs p) k)
unfolding rounded
rounded-near p zero h l = absurd (omega arith)
rounded-near p (suc k) h l = simp (le-ltb 29 (suc k) l)

pub near-is : (n k : ℕ) → 1 ≤ k → (n + 2 ^ (k - 1)) / 2 ^ k ≡ near n k
near-is n zero h = absurd (omega arith)
near-is n (suc k) h = let e : suc k - 1 ≡ k = omega arith in ap (λ (i : ℕ). (n + 2 ^ i) / 2 ^ suc k) e

-- 0 is rounded to 0
pub near-zero : (k : ℕ) → 1 ≤ k → near 0 k ≡ 0
near-zero zero h = absurd (omega arith)
near-zero (suc k) h = N.div-eq_of_lt (omega (arith, N.pow-succ' 2 k, N.one-le-pow k 2 (N.zero-lt-suc 1)))

pub rounded-half : (p : ℤ) (M k : ℕ) → 1 ≤ k → nat_abs p ≤ 2 * M → nat_abs (rounded p k) ≤ M
unfolding rounded
rounded-half p M zero h l = absurd (omega arith)
rounded-half p M (suc k) h l = far (ltb 29 (suc k)) p _ M (near-half (nat_abs p) M k l)

pub rounded-le : (p : ℤ) (M k : ℕ) → nat_abs p ≤ M → nat_abs (rounded p k) ≤ M
unfolding rounded
rounded-le p M zero l = l
rounded-le p M (suc k) l = rounded-half p M (suc k) (omega arith) (omega arith)
