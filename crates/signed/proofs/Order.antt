-- Order: what a test of signed numbers says of their parts, and a test from what is known. Assumes nothing.
use mathlib.Core.Path.{◌≡◌, refl, sym, ap}
use mathlib.Core.Bool.{Bool, true, false, true≢false}
use Prim.Native.Nat.{ℕ, zero, suc, ◌+◌, ◌≤◌, ◌<◌}
use native.Mathlib.Omega.{arith}
use lib.IntN.{ℤ, pos, negsuc, neg_ℤ}
use lib.Signed.{le_z, lt_z, non_neg}
use lib.Dec.{T, leb, eqb, eqb→eq, leb-suc-suc}
use borrow.Author.Tests.{ltb-true, ltb-false, leb-true, leb-false, lt-ltb, le-ltb, le-leb, lt-leb}
use Rattle.signed.proofs.Parts.{up, dn}

pub le_z-true : (a b : ℤ) → le_z a b ≡ true → up a + dn b ≤ up b + dn a
le_z-true (pos a) (pos b) h = omega (arith, leb-true a b h)
le_z-true (pos a) (negsuc b) h = absurd (true≢false (sym h))
le_z-true (negsuc a) (pos b) h = omega arith
le_z-true (negsuc a) (negsuc b) h = omega (arith, leb-true b a h)

pub le_z-false : (a b : ℤ) → le_z a b ≡ false → up b + dn a < up a + dn b
le_z-false (pos a) (pos b) h = omega (arith, leb-false a b h)
le_z-false (pos a) (negsuc b) h = omega arith
le_z-false (negsuc a) (pos b) h = absurd (true≢false h)
le_z-false (negsuc a) (negsuc b) h = omega (arith, leb-false b a h)

pub lt_z-true : (a b : ℤ) → lt_z a b ≡ true → up a + dn b < up b + dn a
lt_z-true (pos a) (pos b) h = omega (arith, ltb-true a b h)
lt_z-true (pos a) (negsuc b) h = absurd (true≢false (sym h))
lt_z-true (negsuc a) (pos b) h = omega arith
lt_z-true (negsuc a) (negsuc b) h = omega (arith, ltb-true b a h)

pub lt_z-false : (a b : ℤ) → lt_z a b ≡ false → up b + dn a ≤ up a + dn b
lt_z-false (pos a) (pos b) h = omega (arith, ltb-false a b h)
lt_z-false (pos a) (negsuc b) h = omega arith
lt_z-false (negsuc a) (pos b) h = absurd (true≢false h)
lt_z-false (negsuc a) (negsuc b) h = omega (arith, ltb-false b a h)

pub le-le_z : (a b : ℤ) → up a + dn b ≤ up b + dn a → le_z a b ≡ true
le-le_z (pos a) (pos b) h = le-leb a b (omega arith)
le-le_z (pos a) (negsuc b) h = absurd (omega arith)
le-le_z (negsuc a) (pos b) h = refl
le-le_z (negsuc a) (negsuc b) h = le-leb b a (omega arith)

pub lt-le_z : (a b : ℤ) → up b + dn a < up a + dn b → le_z a b ≡ false
lt-le_z (pos a) (pos b) h = lt-leb a b (omega arith)
lt-le_z (pos a) (negsuc b) h = refl
lt-le_z (negsuc a) (pos b) h = absurd (omega arith)
lt-le_z (negsuc a) (negsuc b) h = lt-leb b a (omega arith)

pub lt-lt_z : (a b : ℤ) → up a + dn b < up b + dn a → lt_z a b ≡ true
lt-lt_z (pos a) (pos b) h = lt-ltb a b (omega arith)
lt-lt_z (pos a) (negsuc b) h = absurd (omega arith)
lt-lt_z (negsuc a) (pos b) h = refl
lt-lt_z (negsuc a) (negsuc b) h = lt-ltb b a (omega arith)

pub le-lt_z : (a b : ℤ) → up b + dn a ≤ up a + dn b → lt_z a b ≡ false
le-lt_z (pos a) (pos b) h = le-ltb a b (omega arith)
le-lt_z (pos a) (negsuc b) h = refl
le-lt_z (negsuc a) (pos b) h = absurd (omega arith)
le-lt_z (negsuc a) (negsuc b) h = le-ltb b a (omega arith)

-- ---- the code's tests: MIR has `x < y` alone for both ways of an `if`
pub le_of_not_lt : (x y : ℤ) → lt_z x y ≡ false → le_z y x ≡ true
le_of_not_lt x y e = le-le_z y x (omega (arith, lt_z-false x y e))

pub le_of_lt : (x y : ℤ) → lt_z x y ≡ true → le_z x y ≡ true
le_of_lt x y e = le-le_z x y (omega (arith, lt_z-true x y e))

pub non_neg-of-not-lt : (x : ℤ) → lt_z x (pos 0) ≡ false → non_neg x ≡ true
non_neg-of-not-lt (pos a) e = refl
non_neg-of-not-lt (negsuc a) e = sym e

pub neg-of-lt : (x : ℤ) → lt_z x (pos 0) ≡ true → non_neg x ≡ false
neg-of-lt (pos a) e = absurd (omega (arith, lt_z-true (pos a) (pos 0) e))
neg-of-lt (negsuc a) e = refl

-- of two numbers at most 0, the larger is the smaller in size
pub le-neg : (a b : ℕ) → le_z (neg_ℤ (pos a)) (neg_ℤ (pos b)) ≡ leb b a
le-neg zero zero = refl
le-neg zero (suc b) = sym (lt-leb (suc b) zero (omega arith))
le-neg (suc a) zero = sym (le-leb zero (suc a) (omega arith))
le-neg (suc a) (suc b) = sym (leb-suc-suc b a)

-- ---- a test of equality that computes
abbrev pub eq_z : ℤ → ℤ → Bool
eq_z (pos a) (pos b) = eqb a b
eq_z (pos a) (negsuc b) = false
eq_z (negsuc a) (pos b) = false
eq_z (negsuc a) (negsuc b) = eqb a b

pub eq_z→eq : (a b : ℤ) → T (eq_z a b) → a ≡ b
eq_z→eq (pos a) (pos b) t = ap pos (eqb→eq a b t)
eq_z→eq (pos a) (negsuc b) t = absurd t
eq_z→eq (negsuc a) (pos b) t = absurd t
eq_z→eq (negsuc a) (negsuc b) t = ap negsuc (eqb→eq a b t)
