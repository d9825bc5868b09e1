-- The terms of luma in 0..8M+7 are in 0..M, whatever D from 1 on; and how large they are at each of the three depths. Assumes nothing.
use mathlib.Core.Path.{◌≡◌, sym, subst}
use mathlib.Core.Bool.{true}
use Prim.Native.Nat.{ℕ, zero, suc, ◌+◌, ◌-◌, ◌*◌, ◌/◌, ◌^◌, ◌≤◌, ◌<◌}
use native.Mathlib.Omega.{arith}
use native.Mathlib.Nat as N
use lib.IntN.{ℤ, pos, nat_abs}
use Rattle.numbers.specs.Depth.{is_depth, most}
use Rattle.numbers.proofs.Agree.{depth-all}
use Rattle.signed.specs.Range.{inside}
use Rattle.signed.proofs.Range.{inside-abs, inside-pos, pos-inside}
use Rattle.colour_terms.specs.Terms.{eighth, middle, squared}

-- "0..8M+7": an eighth is in 0..M
pub eighth-in : (m : ℕ) (v : ℤ) → inside (pos (8 * m + 7)) v ≡ true → inside (pos m) (eighth v) ≡ true
eighth-in m v e =
    let n = nat_abs v in
    let h : n ≤ 8 * m + 7 = inside-abs (8 * m + 7) v e in
    subst (λ (z : ℤ). inside (pos m) (eighth z) ≡ true) (sym (inside-pos (8 * m + 7) v e)) (pos-inside m (n / 8) (omega arith))

-- 2^(D-1) is below 2^D
pub middle-below : (D : ℕ) → 1 ≤ D → middle D < 2 ^ D
middle-below zero h = absurd (omega arith)
middle-below (suc D) h =
    let e : suc D - 1 ≡ D = omega arith in
    subst (λ (k : ℕ). 2 ^ k < 2 ^ suc D) (sym e) (omega (arith, N.pow-succ' 2 D, N.one-le-pow D 2 (N.zero-lt-suc 1)))

pub middle-most : (D : ℕ) → 1 ≤ D → middle D ≤ most D
middle-most D h = omega (arith, middle-below D h)

-- c in 0..Q, and a half that is in 0..Q too: the square, rounded, is at most Q
square-most : (c h Q : ℕ) → c ≤ Q → h ≤ Q → (c * c + h) / suc Q ≤ Q
square-most c h Q l k =
    let s : c * c + h < suc Q * suc Q = omega (arith, N.mul-le-mul l l) in
    N.le_of_suc-le-suc ((N.div-lt_iff_lt-mul (N.zero-lt-suc Q)).1 s)

pub squared-in : (D : ℕ) (c : ℤ) → 1 ≤ D → inside (pos (most D)) c ≡ true → inside (pos (most D)) (squared D c) ≡ true
unfolding squared
squared-in D c h e =
    let n = nat_abs c in
    let P : 2 ^ D ≡ suc (most D) = omega (arith, N.one-le-pow D 2 (N.zero-lt-suc 1)) in
    let q : (n * n + middle D) / 2 ^ D ≤ most D =
    subst (λ (k : ℕ). (n * n + middle D) / k ≤ most D) (sym P) (square-most n (middle D) (most D) (inside-abs (most D) c e) (middle-most D h)) in
    subst (λ (z : ℤ). inside (pos (most D)) (squared D z) ≡ true) (sym (inside-pos (most D) c e)) (pos-inside (most D) _ q)

-- the largest D, M and 2^(D-1) of the three depths
pub most-all : (D : ℕ) → is_depth D ≡ true → (D ≤ 12) × (most D ≤ 4095) × (middle D ≤ 2048)
most-all D e = depth-all (λ x. (x ≤ 12) × (most x ≤ 4095) × (middle x ≤ 2048)) D (omega arith) e

pub depth-some : (D : ℕ) → is_depth D ≡ true → 1 ≤ D
depth-some D e = depth-all (λ x. 1 ≤ x) D (omega arith) e
