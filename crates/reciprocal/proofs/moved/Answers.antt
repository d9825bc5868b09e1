-- `moved` meets its contract. Assumes nothing.
use Rattle.std.proofs.Common.{◌≡◌, ℕ, suc, ◌+◌, ◌-◌, ◌/◌, ◌%◌, ◌^◌, ◌<◌, ◌≤◌, sym, ap, ◌∙◌, subst, ⊎_elim, arith, shl_exact, le-ltb, lt-ltb}
use native.Mathlib.Nat as N
use Rattle.fixed_product.specs.Product.{ilog2}
use Rattle.reciprocal.specs.Division.{dropped, moved}
use Rattle.fixed_product.proofs.Shift.{ilog2-is, ilog2-le}
use Rattle.fixed_product.proofs.Rounding.{one_shl}
use Rattle.reciprocal.proofs.moved.Goals as goal

top : (d s : ℕ) → s ≡ ilog2 d → d < 2 ^ 32 → d < 2 ^ suc s
top d s e h =
    ⊎_elim (λ (z : d ≡ 0). omega (arith, z, N.one-le-pow (suc s) 2 (N.zero-lt-suc 1)))
    (λ (p : 0 < d). subst (λ (k : ℕ). d < 2 ^ suc k) (sym e) (ilog2-is d p h).0.high) (N.eq-zero-or-pos d)

-- the place is at most 31
place : (d s : ℕ) → s ≡ ilog2 d → s ≤ 31
place d s e = omega (arith, ilog2-le d)

dropped-is : (d s : ℕ) → 15 ≤ s → (d + 2 ^ (s - 15)) % 2 ^ 32 / 2 ^ (s - 14) ≡ dropped d (s - 14)
dropped-is d s h =
    let e : s - 14 ≡ suc (s - 15) = omega arith in
    ap (λ (k : ℕ). (d + 2 ^ (s - 15)) % 2 ^ 32 / 2 ^ k) e ∙ ap (dropped d) (sym e)

pub returns-then-s-lt14 : goal.returns-then-s-lt14
unfolding moved
returns-then-s-lt14 c =
    let s = c.args.s in
    simp (lt-ltb s 14 c.if-s-lt14.true) (shl_exact (suc s) (14 - s) 32 (top c.args.d s c.requires c.ranges.d.fits) (omega arith))

pub returns-then-s-eq14 : goal.returns-then-s-eq14
unfolding moved
returns-then-s-eq14 c = simp c.if-s-eq14.true

pub overflow_shl-result-else-s-eq14 : goal.overflow_shl-result-else-s-eq14
overflow_shl-result-else-s-eq14 c = omega (arith, place c.args.d c.args.s c.requires)

pub overflow_shr-result : goal.overflow_shr-result
overflow_shr-result c = omega (arith, place c.args.d c.args.s c.requires)

pub returns-else-s-eq14 : goal.returns-else-s-eq14
unfolding moved
returns-else-s-eq14 c =
    let s = c.args.s in
    simp (one_shl (s - 15) (omega (arith, place c.args.d s c.requires)))
    (dropped-is c.args.d s (omega (arith, c.if-s-eq14.false, c.if-s-lt14.false)) ∙ simp (le-ltb s 14 c.if-s-lt14.false))
