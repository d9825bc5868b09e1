-- What the fields of a bit pattern are read as, where that is finite, above zero and at least 1/2: the digits under a leading one, shifted by the
-- exponent's field. Assumes nothing.
use mathlib.Core.Path.{◌≡◌, refl, sym, subst}
use mathlib.Core.Bool.{Bool, true, false, not, cond}
use Prim.Native.Nat.{ℕ, zero, suc, ◌+◌, ◌*◌, ◌/◌, ◌%◌, ◌^◌, ◌≤◌, ◌<◌}
use native.Mathlib.Nat.{lt_of_lt_of_le, lt_of_le_of_lt, lt_irrefl}
use native.Mathlib.Omega.{arith}
use lib.Dec.{T, leb, eqb, lit≤}
use lib.Pow.{pow_mono}
use lib.Ieee.{Float, nan, inf, fin, binary32, odd, of_fields, of_bits}
use lib.Ieee.Exact.{HasValue, odd_sign}
use lib.Ieee.Positive.{num, den, positive, den_pos, value→cross}
use Rattle.samples.proofs.Within.{units_ge}

-- ---- what a pattern's fields are read as, where that is finite, above zero and at least 1/2

pub of_bits_is : (b : ℕ) → of_bits binary32 b ≡ of_fields binary32 (leb (2 ^ 31) b) (b % 2 ^ 31 / 2 ^ 23) (b % 2 ^ 23)
unfolding of_bits
of_bits_is b = refl

sign_of : (x : Float) (s : Bool) (a c : ℕ) → T (positive x) → HasValue x s a c → s ≡ false
sign_of nan s a c p h = absurd p
sign_of (inf t) s a c p h = absurd p
sign_of (fin true m e) s a c p h = absurd p
sign_of (fin false m e) s a c p h = sym h.0

-- the field is j + 1, the sign is clear, and the value is the digits under a leading one, times 2 ^ j units
abbrev pub Read : Bool → ℕ → ℕ → Float → Type 0
Read s x t v = (j : ℕ) × (x ≡ suc j) × (s ≡ false) × HasValue v false ((2 ^ 23 + t) * 2 ^ j) (2 ^ 149)

clear : (v : Float) (s : Bool) (a c : ℕ) → T (positive v) → HasValue v s a c → HasValue v false a c
clear v s a c p h = subst (λ (k : Bool). HasValue v k a c) (sign_of v s a c p h) h

twice : (t : ℕ) → t < 2 ^ 23 → 2 * (t * 2 ^ 0) < 2 ^ 24
twice t h = omega arith

short : (t : ℕ) → t < 2 ^ 23 → 2 ^ 149 ≤ 2 * (t * 2 ^ 0) → ⊥
short t h k =
    let d : 2 * (t * 2 ^ 0) < 2 ^ 24 = twice t h in
    let l : 24 ≤ 149 = lit≤ tt in
    lt_irrefl (2 ^ 149) (lt_of_le_of_lt k (lt_of_lt_of_le d (pow_mono l)))

-- a field of all ones is an infinity's or a NaN's
at_top : (a b s : Bool) (v : Float) → T (positive (cond a (cond b (inf s) nan) v)) → T (not a)
at_top true true s v p = absurd p
at_top true false s v p = absurd p
at_top false b s v p = tt

past_top : (a : Bool) (u v : Float) → T (not a) → cond a u v ≡ v
past_top true u v n = absurd n
past_top false u v n = refl

pub read : (s : Bool) (x t : ℕ) → t < 2 ^ 23 → T (positive (of_fields binary32 s x t)) → den (of_fields binary32 s x t) ≤ 2 * num (of_fields binary32 s x t) → Read s x t (of_fields binary32 s x t)
unfolding of_fields
read s zero t h p g =
    let v = odd 24 s t 0 149 in
    absurd (short t h (units_ge (num v) (den v) (t * 2 ^ 0) (2 ^ 149) (den_pos v) (value→cross v (t * 2 ^ 0) (2 ^ 149) (clear v s (t * 2 ^ 0) (2 ^ 149) p (odd_sign 24 s t 0 149))) g))
read s (suc j) t h p g =
    let v = odd 24 s (2 ^ 23 + t) j 149 in
    let u = cond (eqb t 0) (inf s) nan in
    let is : cond (eqb (suc j) 255) u v ≡ v = past_top (eqb (suc j) 255) u v (at_top (eqb (suc j) 255) (eqb t 0) s v p) in
    let q : T (positive v) = subst (λ (k : Float). T (positive k)) is p in (
      j,
      refl,
      sign_of v s ((2 ^ 23 + t) * 2 ^ j) (2 ^ 149) q (odd_sign 24 s (2 ^ 23 + t) j 149),
      subst (λ (k : Float). HasValue k false ((2 ^ 23 + t) * 2 ^ j) (2 ^ 149)) (sym is) (clear v s ((2 ^ 23 + t) * 2 ^ j) (2 ^ 149) q (odd_sign 24 s (2 ^ 23 + t) j 149)),
    )
