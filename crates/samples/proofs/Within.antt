-- A float that is at least 0.5 and below 2 ^ w, as a fraction, and as a number of units of 2 ^ -149. Assumes nothing.
use mathlib.Core.Path.{◌≡◌, sym, subst}
use mathlib.Core.Bool.{Bool, true, false, not, ◌||◌}
use Prim.Native.Nat.{ℕ, ◌*◌, ◌^◌, ◌≤◌, ◌<◌}
use native.Mathlib.Nat.{le_of_eq, lt_of_lt_of_le, lt_of_le_of_lt, mul_comm, mul_right_comm, mul-le-mul_right, mul-lt-mul_of_pos_right, le_of_mul-le-mul_right, lt_of_mul-lt-mul_right, mul-one, one-mul}
use native.Mathlib.Omega.{arith}
use lib.IntN.{pos}
use lib.Dec.{T, ltb→lt}
use lib.Ieee.{Float, nan, inf, fin, up, down, lt, eq, le}
use lib.Ieee.Positive.{num, den, positive, between, le→cross}
use Rattle.samples.specs.Sample.{half}

-- the float 2 ^ w
abbrev pub two_to : ℕ → Float
two_to w = fin false 1 (pos w)

-- ---- a test's answer as a fact

pub yes : {b : Bool} → b ≡ true → T b
yes h = subst T (sym h) tt

pub no : {b : Bool} → b ≡ false → T (not b)
no h = subst (λ (a : Bool). T (not a)) (sym h) tt

-- ---- at least 0.5 and below 2 ^ w, as a fraction

or_l : (a b : Bool) → T a → T (a || b)
or_l true b t = tt
or_l false b t = absurd t

lt→le : (x y : Float) → T (lt x y) → T (le x y)
unfolding le
lt→le x y h = or_l (lt x y) (eq x y) h

tidy_le : (d n : ℕ) → 1 * d ≤ n * 2 → d ≤ 2 * n
tidy_le d n h = omega arith

tidy_lt : (n p d : ℕ) → n * 1 < 1 * p * d → n < p * d
tidy_lt n p d h = subst (λ (k : ℕ). n < k * d) (one-mul p) (subst (λ (k : ℕ). k < 1 * p * d) (mul-one n) h)

under_pow : (x : Float) (w : ℕ) → T (positive x) → T (lt x (two_to w)) → num x < 2 ^ w * den x
unfolding lt
under_pow nan w p h = absurd p
under_pow (inf s) w p h = absurd p
under_pow (fin true m e) w p h = absurd p
under_pow (fin false m e) w p h = tidy_lt (m * up e) (2 ^ w) (down e) (ltb→lt (m * up e * 1) (1 * 2 ^ w * down e) h)

-- x is finite and above zero, and its size num / den is at least 1/2 and below 2 ^ w
abbrev pub Within : ℕ → Float → Type 0
Within w x = T (positive x) × (den x ≤ 2 * num x) × (num x < 2 ^ w * den x)

pub within : (w : ℕ) (x : Float) → T (le half x) → T (lt x (two_to w)) → Within w x
within w x a b =
    let p : T (positive x) = between half x (two_to w) tt tt a (lt→le x (two_to w) b) in
    (p, tidy_le (den x) (num x) (le→cross half x tt p a), under_pow x w p b)

-- ---- the same fraction in units of 2 ^ -149: n / d is a / l

module _ (n d a l : ℕ) (D : 0 < d) (v : n * l ≡ a * d) where
  pub units_ge : d ≤ 2 * n → l ≤ 2 * a
  units_ge h = le_of_mul-le-mul_right (omega (arith, v, mul_comm l d, mul-le-mul_right l h)) D

  pub units_lt : (p : ℕ) → 0 < l → n < p * d → a < p * l
  units_lt p L h = lt_of_mul-lt-mul_right d (lt_of_le_of_lt (le_of_eq (sym v)) (lt_of_lt_of_le (mul-lt-mul_of_pos_right h L) (le_of_eq (mul_right_comm p d l))))
