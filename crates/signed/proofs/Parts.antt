-- Signed numbers for omega, which reads ℕ alone: every z of ℤ is up z - dn z, and each law below is linear in such parts wherever a factor is a
-- literal. A need on signed numbers is answered by `omega (arith, LAW .., LAW ..)`, a law for each operation in it; `same` turns an equation of ℤ
-- into one of ℕ, and `sfits` does so for a range. Assumes nothing.
use mathlib.Core.Path.{◌≡◌, refl, ap}
use mathlib.Core.Bool.{Bool, true, false, cond}
use mathlib.Core.Logic.{◌⊎◌, inl, inr}
use Prim.Native.Nat.{ℕ, zero, suc, ◌+◌, ◌-◌, ◌*◌, ◌/◌, ◌^◌, ◌≤◌, ◌<◌}
use native.Mathlib.Nat as N
use native.Mathlib.Omega.{arith}
use lib.IntN.{ℤ, pos, negsuc, neg_ℤ, nat_abs, sub_ℕ, ◌+ℤ◌, ◌-ℤ◌, ◌*ℤ◌}
use lib.Signed.{shr_z}
use lib.Dec.{ltb}
use borrow.Author.Tests.{ltb-true, ltb-false}
use mir.Val.{SFits, hbits}
use mir.Syntax.{Width}

-- the positive part, and the negative part
abbrev pub up : ℤ → ℕ
up (pos n) = n
up (negsuc n) = 0

abbrev pub dn : ℤ → ℕ
dn (pos n) = 0
dn (negsuc n) = suc n

-- equal numbers
pub same : (a b : ℤ) → up a + dn b ≡ up b + dn a → a ≡ b
same (pos a) (pos b) h = let e : a ≡ b = omega arith in ap pos e
same (pos a) (negsuc b) h = absurd (omega arith)
same (negsuc a) (pos b) h = absurd (omega arith)
same (negsuc a) (negsuc b) h = let e : a ≡ b = omega arith in ap negsuc e

-- z is in the range of a signed width: -2 ^ h ≤ z < 2 ^ h
pub sfits : (w : Width) (z : ℤ) → up z < 2 ^ hbits w + dn z → dn z ≤ 2 ^ hbits w + up z → SFits w z
sfits w (pos n) h k = record { sfits = omega arith }
sfits w (negsuc n) h k = record { sfits = omega arith }

-- ---- sums

pub neg : (a : ℤ) → (up (neg_ℤ a) ≡ dn a) × (dn (neg_ℤ a) ≡ up a)
neg (pos zero) = (refl, refl)
neg (pos (suc n)) = (refl, refl)
neg (negsuc n) = (refl, refl)

nat-sub' : (a b : ℕ) (t : Bool) → ltb a b ≡ t → up (cond t (negsuc (b - suc a)) (pos (a - b))) + b ≡ dn (cond t (negsuc (b - suc a)) (pos (a - b))) + a
nat-sub' a b true h = omega (arith, ltb-true a b h)
nat-sub' a b false h = omega (arith, ltb-false a b h)

nat-sub : (a b : ℕ) → up (sub_ℕ a b) + b ≡ dn (sub_ℕ a b) + a
nat-sub a b = nat-sub' a b (ltb a b) refl

pub add : (a b : ℤ) → up (a +ℤ b) + dn a + dn b ≡ dn (a +ℤ b) + up a + up b
add (pos a) (pos b) = omega arith
add (pos a) (negsuc b) = omega (arith, nat-sub a (suc b))
add (negsuc a) (pos b) = omega (arith, nat-sub b (suc a))
add (negsuc a) (negsuc b) = omega arith

pub sub : (a b : ℤ) → up (a -ℤ b) + dn a + up b ≡ dn (a -ℤ b) + up a + dn b
sub a b = omega (arith, add a (neg_ℤ b), neg b)

-- ---- products

neg-pos : (n : ℕ) → (up (neg_ℤ (pos n)) ≡ 0) × (dn (neg_ℤ (pos n)) ≡ n)
neg-pos zero = (refl, refl)
neg-pos (suc n) = (refl, refl)

-- by a natural: linear where w is a literal
pub mul : (a : ℤ) (w : ℕ) → (up (a *ℤ pos w) ≡ up a * w) × (dn (a *ℤ pos w) ≡ dn a * w)
mul (pos a) w = (refl, omega arith)
mul (negsuc a) w = omega (arith, neg-pos (suc a * w))

-- by any number, where the products are atoms to omega
pub mulz : (a b : ℤ) → up (a *ℤ b) + (up a * dn b + dn a * up b) ≡ dn (a *ℤ b) + (up a * up b + dn a * dn b)
mulz (pos a) (pos b) = omega arith
mulz (pos a) (negsuc b) = omega (arith, neg-pos (a * suc b))
mulz (negsuc a) (pos b) = omega (arith, neg-pos (suc a * b))
mulz (negsuc a) (negsuc b) = omega arith

-- ---- sizes

pub abs : (a : ℤ) → nat_abs a ≡ up a + dn a
abs (pos n) = omega arith
abs (negsuc n) = omega arith

-- one part is 0
pub parts : (a : ℤ) {A : ℕ} → up a ≤ A + dn a → dn a ≤ A + up a → (up a ≤ A) × (dn a ≤ A)
parts (pos n) h k = omega arith
parts (negsuc n) h k = omega arith

-- the same by cases, with `⊎_elim (λ h. omega ..) (λ h. omega ..) (one a)`
pub one : (a : ℤ) → (dn a ≡ 0) ⊎ (up a ≡ 0)
one (pos n) = inl refl
one (negsuc n) = inr refl

-- ---- the shift that rounds toward minus infinity: m q ≤ z < m q + m, for q = shr_z z m

pub shr : (z : ℤ) (m : ℕ) → 0 < m → (m * up (shr_z z m) + dn z ≤ up z + m * dn (shr_z z m)) × (up z + m * dn (shr_z z m) < m * up (shr_z z m) + dn z + m)
shr (pos a) m h = omega (arith, N.div-add-mod' a m, N.mod-lt a h)
shr (negsuc a) m h = omega (arith, N.div-add-mod' a m, N.mod-lt a h)

-- ---- a shift by an open amount: q ≤ k where z < m k + m, and -k ≤ q where -m k ≤ z
pub shr_most : (z : ℤ) (m k : ℕ) → 0 < m → up z < m * k + m + dn z → up (shr_z z m) ≤ k + dn (shr_z z m)
shr_most (pos a) m k h l = let g : a / m < k + 1 = (N.div-lt_iff_lt-mul h).1 (omega arith) in omega arith
shr_most (negsuc a) m k h l = omega arith

pub shr-least : (z : ℤ) (m k : ℕ) → 0 < m → dn z ≤ m * k + up z → dn (shr_z z m) ≤ k + up (shr_z z m)
shr-least (pos a) m k h l = omega arith
shr-least (negsuc a) m k h l = let g : a / m < k = (N.div-lt_iff_lt-mul h).1 (omega arith) in omega arith
