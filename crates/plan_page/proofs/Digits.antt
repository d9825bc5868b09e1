-- The digits of a number below 100,000: as many as the toolchain's `io::decimal` writes, and at most five. Assumes nothing.
use mathlib.Core.Path.{◌≡◌, refl, ◌∙◌, ap}
use mathlib.Core.Bool.{Bool, true, false, cond}
use mathlib.Core.List.{[], ◌∷◌}
use mathlib.Core.Logic.{⊎_elim}
use Prim.Native.Nat.{ℕ, zero, suc, ◌-◌, ◌/◌, ◌%◌, ◌^◌, ◌≤◌, ◌<◌}
use native.Mathlib.Nat.{pow-le-pow_right}
use native.Mathlib.Omega.{arith}
use lib.Dec.{ltb}
use lib.ListN.{length, length-append}
use borrow.Author.Tests.{lt-ltb, le-ltb}
use Rattle.signed.proofs.Naturals.{either}
use Rattle.io.specs.Digits.{last_digits, hex_digit_ascii, IsDigitCount}
use Rattle.plan_page.specs.Page.{digits_in, decimal}

-- the fewest digits are one count
fewer : (n k c : ℕ) → IsDigitCount 10 1 n k → IsDigitCount 10 1 n c → k < c → ⊥
fewer n k c p q h =
    let low : 10 ^ (c - 1) ≤ n = q.2 (omega (arith, p.0)) in
    let up : 10 ^ k ≤ 10 ^ (c - 1) = pow-le-pow_right {n = 10} (omega arith) (omega arith) in
    omega (arith, p.1)

fewest-same : (n k c : ℕ) → IsDigitCount 10 1 n k → IsDigitCount 10 1 n c → k ≡ c
fewest-same n k c p q =
    ⊎_elim
    (λ (h : k ≤ c). ⊎_elim (λ (g : c ≤ k). omega arith) (λ (g : k < c). absurd (fewer n k c p q g)) (either c k))
    (λ (h : c < k). absurd (fewer n c k q p h))
    (either k c)

-- digits_in is it
pub count-fewest : (n : ℕ) → n < 100000 → IsDigitCount 10 1 n (digits_in n)
count-fewest n l =
    ⊎_elim
    (λ (a : 10 ≤ n). ⊎_elim
    (λ (b : 100 ≤ n). ⊎_elim
    (λ (c : 1000 ≤ n). ⊎_elim
    (λ (d : 10000 ≤ n). rw (le-ltb n 10 a, le-ltb n 100 b, le-ltb n 1000 c, le-ltb n 10000 d) (omega arith, l, λ h. d))
    (λ (d : n < 10000). rw (le-ltb n 10 a, le-ltb n 100 b, le-ltb n 1000 c, lt-ltb n 10000 d) (omega arith, d, λ h. c))
    (either 10000 n))
    (λ (c : n < 1000). rw (le-ltb n 10 a, le-ltb n 100 b, lt-ltb n 1000 c) (omega arith, c, λ h. b))
    (either 1000 n))
    (λ (b : n < 100). rw (le-ltb n 10 a, lt-ltb n 100 b) (omega arith, b, λ h. a))
    (either 100 n))
    (λ (a : n < 10). rw (lt-ltb n 10 a) (omega arith, a, λ h. absurd (omega arith)))
    (either 10 n)

-- what `io::decimal` writes of n is n in decimal
pub decimal-is : (n k : ℕ) → n < 100000 → IsDigitCount 10 1 n k → last_digits 10 k n ≡ decimal n
unfolding decimal
decimal-is n k l f = ap (λ (m : ℕ). last_digits 10 m n) (fewest-same n k (digits_in n) f (count-fewest n l))

digits-length : (k n : ℕ) → length (last_digits 10 k n) ≡ k
digits-length zero n = refl
digits-length (suc k) n = length-append (last_digits 10 k (n / 10)) (hex_digit_ascii (n % 10) ∷ []) ∙ omega (arith, digits-length k (n / 10))

few : (a b c d : Bool) → cond a 1 (cond b 2 (cond c 3 (cond d 4 5))) ≤ 5
few true b c d = omega arith
few false true c d = omega arith
few false false true d = omega arith
few false false false true = omega arith
few false false false false = omega arith

pub decimal-few : (n : ℕ) → length (decimal n) ≤ 5
unfolding decimal
decimal-few n = rw (digits-length (digits_in n) n) (few (ltb n 10) (ltb n 100) (ltb n 1000) (ltb n 10000))
