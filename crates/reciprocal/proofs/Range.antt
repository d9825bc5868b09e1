-- The range of the reciprocal's curve (document 01, Colour parameters), by one computed test of its 2 ^ 14 places. Assumes nothing.
use Rattle.std.proofs.Common.{◌≡◌, ℕ, zero, suc, ◌+◌, ◌*◌, ◌/◌, ◌%◌, ◌^◌, ◌<◌, ◌≤◌, Bool, true, T, leb, get_or, ℤ, pos, negsuc, ◌*ℤ◌, nat_abs, sym, refl, ap, subst, ⊎_elim, arith, leb→le, w32, SFits}
use native.Mathlib.Nat as N
use lib.Signed.{le_z}
use Rattle.signed.proofs.Bound.{sfits-abs}
use Rattle.lists.proofs.Table.{at, both, both_left, both_right}
use Rattle.reciprocal.specs.Division.{curve, fraction, scale_of, pow2w, pow2o, pow2b}

-- f at every number below n
abbrev pub below : (ℕ → Bool) → ℕ → Bool
below f zero = true
below f (suc n) = both (f n) (below f n)

pub below_at : (f : ℕ → Bool) (n : ℕ) → T (below f n) → (k : ℕ) → k < n → T (f k)
below_at f zero t k h = absurd (omega arith)
below_at f (suc n) t k h =
    ⊎_elim (λ (e : k ≡ n). subst (λ (i : ℕ). T (f i)) (sym e) (both_left (f n) (below f n) t))
    (λ (l : k < n). below_at f n (both_right (f n) (below f n) t) k l) (N.eq-or-lt_of_le (N.le_of_suc-le-suc h))

inside : ℕ → Bool
unfolding curve
inside n = both (le_z (pos 8180) (curve n)) (le_z (curve n) (pos 16381))

rows : ℕ → Bool
unfolding inside
rows i = below (λ (j : ℕ). inside (i * 128 + j)) 128

pub record Between (l m : ℕ) (z : ℤ) : Type 0 where
  pub n : ℕ
  pub is : z ≡ pos n
  pub least : l ≤ n
  pub most : n ≤ m

between : (l m : ℕ) (z : ℤ) → T (both (le_z (pos l) z) (le_z z (pos m))) → Between l m z
between l m (pos n) t =
    let least = leb→le l n (both_left (leb l n) (leb n m) t) in
    let most = leb→le n m (both_right (leb l n) (leb n m) t) in
    record { n = n; is = refl; least = least; most = most }
between l m (negsuc n) t = absurd t

pub curve-range : (n : ℕ) → n < 2 ^ 14 → Between 8180 16381 (curve n)
unfolding rows inside
curve-range n h =
    let r = below_at rows 128 tt (n / 128) (omega arith) in
    let t = below_at (λ (j : ℕ). inside (n / 128 * 128 + j)) 128 r (n % 128) (N.mod-lt n (N.zero-lt-suc 127)) in
    between 8180 16381 (curve n) (subst (λ (k : ℕ). T (inside k)) (N.div-add-mod' n 128) t)

pub scale-range : (d : ℕ) → Between 32720 65524 (scale_of d)
unfolding scale_of fraction
scale-range d =
    let c = curve-range (fraction d) (N.mod-lt _ (N.zero-lt-suc 16383)) in
    record { n = c.n * 4; is = ap (λ (z : ℤ). z *ℤ pos 4) c.is; least = omega (arith, c.least); most = omega (arith, c.most) }

between-abs : (l m : ℕ) (z : ℤ) → Between l m z → nat_abs z ≤ m
between-abs l m z b = subst (λ (y : ℤ). nat_abs y ≤ m) (sym b.is) b.most

pub scale-fits : (d : ℕ) → SFits w32 (scale_of d)
scale-fits d = sfits-abs w32 (scale_of d) (omega (arith, between-abs 32720 65524 (scale_of d) (scale-range d)))

-- the tables' entries, each by one test
most : ℕ → ℕ → ℤ → Bool
most m i z = leb (nat_abs z) m

pub w-most : (i : ℕ) → i < 8 → nat_abs (get_or pow2w i (pos 0)) ≤ 214
unfolding most
w-most i h = leb→le _ 214 (at (pos 0) (most 214) pow2w tt i h)

pub o-most : (i : ℕ) → i < 8 → nat_abs (get_or pow2o i (pos 0)) ≤ 6792
unfolding most
o-most i h = leb→le _ 6792 (at (pos 0) (most 6792) pow2o tt i h)

pub b-most : (i : ℕ) → i < 8 → nat_abs (get_or pow2b i (pos 0)) ≤ 13782
unfolding most
b-most i h = leb→le _ 13782 (at (pos 0) (most 13782) pow2b tt i h)
