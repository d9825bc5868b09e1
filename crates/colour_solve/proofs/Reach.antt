-- "so each ends at or below 2^22": n samples whose terms are at most M have sums of at most 2^(2D + ceil(log2 n)), with D open. Assumes nothing.
use mathlib.Core.Path.{◌≡◌, sym, ◌∙◌, ap, subst}
use mathlib.Core.Logic.{⊎_elim}
use Prim.Native.Nat.{ℕ, suc, ◌+◌, ◌-◌, ◌*◌, ◌/◌, ◌^◌, ◌≤◌, ◌<◌}
use native.Mathlib.Omega.{arith}
use native.Mathlib.Numerals.{add-one}
use native.Mathlib.Nat as N
use lib.Pow.{pow-add}
use borrow.Author.Tests.{lt-ltb, le-ltb}
use Rattle.numbers.specs.Depth.{most}
use Rattle.fixed_product.specs.Product.{ilog2}
use Rattle.signed.proofs.Naturals.{either}
use Rattle.fixed_product.proofs.Shift.{ilog2-is, ilog2-le}
use Rattle.elimination.specs.Elimination.{SumsIn}
use Rattle.colour_samples.specs.Nine.{NineMost}
use Rattle.colour_samples.specs.declared.nine.Nine.{Nine}
use Rattle.colour_samples.proofs.Grown.{wider}
use Rattle.colour_solve.specs.Shift.{ceil_log2, reach, shifted, shifted_sums}

pub ceil-few : (n : ℕ) → n < 2 → ceil_log2 n ≡ 0
unfolding ceil_log2
ceil-few n h = simp (lt-ltb n 2 h)

pub ceil-more : (n : ℕ) → 2 ≤ n → ceil_log2 n ≡ ilog2 (n - 1) + 1
unfolding ceil_log2
ceil-more n h = simp (le-ltb n 2 h)

pub ceil-most : (n : ℕ) → ceil_log2 n ≤ 32
ceil-most n = ⊎_elim (λ (h : 2 ≤ n). omega (arith, ceil-more n h, ilog2-le (n - 1))) (λ (h : n < 2). omega (arith, ceil-few n h)) (either 2 n)

-- n is at most 2 ^ ceil(log2 n)
pub ceil-is : (n : ℕ) → n < 2 ^ 32 → n ≤ 2 ^ ceil_log2 n
ceil-is n l = ⊎_elim more few (either 2 n)
  where
    few : n < 2 → n ≤ 2 ^ ceil_log2 n
    few h = rw (ceil-few n h) (omega arith)

    more : 2 ≤ n → n ≤ 2 ^ ceil_log2 n
    more h =
        let g = (ilog2-is (n - 1) (omega arith) (omega arith)).0.high in
        rw (ceil-more n h, add-one (ilog2 (n - 1))) (omega arith)

-- a sum of n products of two terms
pub sums-reach : (D n : ℕ) (s : Nine) → n < 2 ^ 32 → NineMost (n * (most D * most D)) s → NineMost (2 ^ reach D n) s
unfolding reach
sums-reach D n s l h =
    let q : most D * most D ≤ 2 ^ D * 2 ^ D = N.mul-le-mul (omega arith) (omega arith) in
    let p : 2 ^ (2 * D + ceil_log2 n) ≡ 2 ^ ceil_log2 n * (2 ^ D * 2 ^ D) = powers in
    wider (subst (λ (k : ℕ). n * (most D * most D) ≤ k) (sym p) (N.mul-le-mul (ceil-is n l) q)) h
  where
    powers : 2 ^ (2 * D + ceil_log2 n) ≡ 2 ^ ceil_log2 n * (2 ^ D * 2 ^ D)
    powers =
        let e : 2 * D + ceil_log2 n ≡ ceil_log2 n + (D + D) = omega arith in
        ap (λ (k : ℕ). 2 ^ k) e ∙ pow-add 2 (ceil_log2 n) (D + D) ∙ ap (λ (k : ℕ). 2 ^ ceil_log2 n * k) (pow-add 2 D D)

-- a shift up by 22 and then down by e is one by 22 - e
pub shift-once : (e s : ℕ) → s * 2 ^ 22 / 2 ^ e ≡ shifted e s
unfolding shifted
shift-once e s = (λ j. up j / down j) ∙ N.mul-div-mul_right (s * 2 ^ (22 - e)) (2 ^ (e - 22)) (N.one-le-pow m 2 (N.zero-lt-suc 1))
  where
    m : ℕ
    m = 22 - (22 - e)

    up : s * 2 ^ 22 ≡ s * 2 ^ (22 - e) * 2 ^ m
    up =
        let k : 22 ≡ (22 - e) + m = omega arith in
        ap (λ (x : ℕ). s * x) (ap (λ (x : ℕ). 2 ^ x) k ∙ pow-add 2 (22 - e) m) ∙ sym (N.mul_assoc s (2 ^ (22 - e)) (2 ^ m))

    down : 2 ^ e ≡ 2 ^ (e - 22) * 2 ^ m
    down = let k : e ≡ (e - 22) + m = omega arith in ap (λ (x : ℕ). 2 ^ x) k ∙ pow-add 2 (e - 22) m

-- and so each ends at or below 2 ^ 22
pub shifted-most : (e s : ℕ) → s ≤ 2 ^ e → shifted e s ≤ 2 ^ 22
unfolding shifted
shifted-most e s h = ⊎_elim up down (either e 22)
  where
    up : e ≤ 22 → s * 2 ^ (22 - e) / 2 ^ (e - 22) ≤ 2 ^ 22
    up l =
        let z : e - 22 ≡ 0 = omega arith in
        let w : e + (22 - e) ≡ 22 = omega arith in
        let p : 2 ^ e * 2 ^ (22 - e) ≡ 2 ^ 22 = sym (pow-add 2 e (22 - e)) ∙ ap (λ (k : ℕ). 2 ^ k) w in
        rw z (N.le_trans (N.div-le_self _ 1) (subst (λ (k : ℕ). s * 2 ^ (22 - e) ≤ k) p (N.mul-le-mul_right (2 ^ (22 - e)) h)))

    down : 22 < e → s * 2 ^ (22 - e) / 2 ^ (e - 22) ≤ 2 ^ 22
    down l =
        let z : 22 - e ≡ 0 = omega arith in
        let w : 22 + (e - 22) ≡ e = omega arith in
        let p : 2 ^ 22 * 2 ^ (e - 22) ≡ 2 ^ e = sym (pow-add 2 22 (e - 22)) ∙ ap (λ (k : ℕ). 2 ^ k) w in
        let o = N.one-le-pow (e - 22) 2 (N.zero-lt-suc 1) in
        let b : s * 1 < suc (2 ^ 22) * 2 ^ (e - 22) = omega (arith, h, p, o) in
        rw z (N.le_of_suc-le-suc ((N.div-lt_iff_lt-mul o).1 b))

-- all nine
pub shifted-sums-most : (e : ℕ) (s : Nine) → NineMost (2 ^ e) s → SumsIn (2 ^ 22) (shifted_sums e s)
unfolding shifted_sums
shifted-sums-most e s h = record {
  a00 = shifted-most e s.a00 h.a00;
  a01 = shifted-most e s.a01 h.a01;
  a02 = shifted-most e s.a02 h.a02;
  a11 = shifted-most e s.a11 h.a11;
  a12 = shifted-most e s.a12 h.a12;
  a22 = shifted-most e s.a22 h.a22;
  y0 = shifted-most e s.y0 h.y0;
  y1 = shifted-most e s.y1 h.y1;
  y2 = shifted-most e s.y2 h.y2;
}
