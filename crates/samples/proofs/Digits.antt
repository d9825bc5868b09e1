-- The whole part of an `f32` x that is at least 1/2 and below 2 ^ 13: the exponent's field of its bit pattern says how far to shift the pattern's
-- digits, with the leading one put back, and the shifted digits are `to_unsigned 32 x`. Assumes nothing.
use mathlib.Core.Path.{◌≡◌, refl, sym, ap, ◌∙◌, subst}
use mathlib.Core.Bool.{true, false, not}
use Prim.Native.Nat.{ℕ, suc, ◌+◌, ◌-◌, ◌*◌, ◌/◌, ◌%◌, ◌^◌, ◌≤◌, ◌<◌, min}
use native.Mathlib.Nat.{le_trans, le_of_eq, lt_of_lt_of_le, lt_of_le_of_lt, mul-le-mul_right, le-add_right, mod-lt, mod-eq_of_lt, div-lt_iff_lt-mul}
use native.Mathlib.Omega.{arith}
use lib.Dec.{T, leb, nleb→lt, lit≤}
use lib.Pow.{pow-add, pow_pos, shl_lt, shl-shr, shr-shr}
use lib.Ieee.{Float, nan, inf, fin, binary32, fits, is_nan, of_bits, to_bits, lt, le, to_unsigned}
use lib.Ieee.Bits.{of_bits-to_bits}
use lib.Ieee.Nearest.{div_same}
use lib.Ieee.Positive.{num, den, positive, den_pos, value→cross}
use Rattle.signed.proofs.Naturals.{pow_below}
use Rattle.samples.specs.Sample.{half}
use Rattle.samples.proofs.Within.{two_to, no, Within, within, units_ge, units_lt}
use Rattle.samples.proofs.Fields.{of_bits_is, Read, read}

-- ---- the pattern of an x that is at least 1/2 and below 2 ^ 13

with_lead : (t : ℕ) → t < 2 ^ 23 → 2 ^ 23 + t < 2 ^ 24
with_lead t h = omega arith

doubled : (q j : ℕ) → q < 2 ^ 24 → 2 * (q * 2 ^ j) < 2 ^ (1 + (24 + j))
doubled q j h = omega (arith, shl_lt 24 j h, pow-add 2 1 (24 + j))

uncapped : (a c : ℕ) → a < c → min a (c - 1) ≡ a
uncapped a c h = omega arith

pub whole_part : (w : ℕ) (x : Float) → T (positive x) → to_unsigned w x ≡ min (num x / den x) (2 ^ w - 1)
unfolding to_unsigned
whole_part w nan p = absurd p
whole_part w (inf s) p = absurd p
whole_part w (fin true m e) p = absurd p
whole_part w (fin false m e) p = refl

lower : (j : ℕ) → 149 < 1 + (24 + j) → 125 ≤ j
lower j h = omega arith

upper : (j : ℕ) → 23 + j < 149 + 13 → j < 139
upper j h = omega arith

-- b's exponent field is j + 1, and x's whole part is b's digits, under a leading one, times 2 ^ (j - 149)
abbrev Shape : ℕ → Float → Type 0
Shape b x = (j : ℕ) × (b / 2 ^ 23 ≡ suc j) × (125 ≤ j) × (j < 139) × (to_unsigned 32 x ≡ (2 ^ 23 + b % 2 ^ 23) * 2 ^ j / 2 ^ 149)

shape_of : (b : ℕ) → Within 13 (of_bits binary32 b) → Shape b (of_bits binary32 b)
shape_of b i =
    let x = of_bits binary32 b in
    let s = leb (2 ^ 31) b in
    let t = b % 2 ^ 23 in
    let q = 2 ^ 23 + t in
    let T23 : t < 2 ^ 23 = mod-lt b (pow_pos 23) in
    let r : Read s (b % 2 ^ 31 / 2 ^ 23) t x =
    subst (λ (k : Float). Read s (b % 2 ^ 31 / 2 ^ 23) t k) (sym (of_bits_is b))
    (read s (b % 2 ^ 31 / 2 ^ 23) t T23 (subst (λ (k : Float). T (positive k)) (of_bits_is b) i.0) (subst (λ (k : Float). den k ≤ 2 * num k) (of_bits_is b) i.1)) in
    let j = r.0 in
    let small : b < 2 ^ 31 = nleb→lt (2 ^ 31) b (no r.2) in
    let v : num x * 2 ^ 149 ≡ q * 2 ^ j * den x = value→cross x (q * 2 ^ j) (2 ^ 149) r.3 in
    let lo : 2 ^ 149 ≤ 2 * (q * 2 ^ j) = units_ge (num x) (den x) (q * 2 ^ j) (2 ^ 149) (den_pos x) v i.1 in
    let hi : q * 2 ^ j < 2 ^ 13 * 2 ^ 149 = units_lt (num x) (den x) (q * 2 ^ j) (2 ^ 149) (den_pos x) v (2 ^ 13) (pow_pos 149) i.2 in (
      j,
      ap (λ (k : ℕ). k / 2 ^ 23) (sym (mod-eq_of_lt small)) ∙ r.1,
      lower j (pow_below 149 (1 + (24 + j)) (lt_of_le_of_lt lo (doubled q j (with_lead t T23)))),
      upper j (pow_below (23 + j) 162 (lt_of_le_of_lt (le_trans (le_of_eq (pow-add 2 23 j)) (mul-le-mul_right (2 ^ j) (le-add_right (2 ^ 23) t))) hi)),
      whole_part 32 x i.0
          ∙ uncapped (num x / den x) (2 ^ 32) (lt_of_lt_of_le ((div-lt_iff_lt-mul (den_pos x)).1 i.2) (lit≤ tt))
          ∙ div_same (num x) (den x) (q * 2 ^ j) (2 ^ 149) (den_pos x) (pow_pos 149) v,
    )

-- ---- the body's arithmetic

join : (j : ℕ) → j ≤ 149 → j + (149 - j) ≡ 149
join j h = omega arith

shifted_down : (q j : ℕ) → j ≤ 149 → q / 2 ^ (149 - j) ≡ q * 2 ^ j / 2 ^ 149
shifted_down q j h = ap (λ (k : ℕ). k / 2 ^ (149 - j)) (sym (shl-shr q j)) ∙ shr-shr (q * 2 ^ j) j (149 - j) ∙ ap (λ (k : ℕ). q * 2 ^ j / 2 ^ k) (join j h)

finite : (y : Float) → T (positive y) → T (not (is_nan y))
unfolding is_nan
finite nan p = absurd p
finite (inf s) p = tt
finite (fin s m e) p = tt

-- ---- what a proof cites, of an x that the format holds and that is at least 1/2 and below 2 ^ 13, and of its pattern b
module _ (x : Float) (F : T (fits binary32 x)) (a : T (le half x)) (c : T (lt x (two_to 13))) where
  abbrev b : ℕ
  b = to_bits binary32 x

  z : Shape b x
  z = subst (λ (k : Float). Shape b k) (of_bits-to_bits binary32 x F) (shape_of b (subst (λ (k : Float). Within 13 k) (sym (of_bits-to_bits binary32 x F)) (within 13 x a c)))

  pub is_no_nan : T (not (is_nan x))
  is_no_nan = finite x (within 13 x a c).0

  -- the exponent field: from 126 to 139
  pub field : (126 ≤ b / 2 ^ 23) × (b / 2 ^ 23 ≤ 139)
  field = go (b / 2 ^ 23) z.0 z.1 z.2 z.3
    where
      go : (e j : ℕ) → e ≡ suc j → 125 ≤ j → j < 139 → (126 ≤ e) × (e ≤ 139)
      go e j p q r = omega arith

  pub cut_down : (2 ^ 23 + b % 2 ^ 23) / 2 ^ (150 - b / 2 ^ 23) ≡ to_unsigned 32 x
  cut_down =
      let j = z.0 in
      ap (λ (k : ℕ). (2 ^ 23 + b % 2 ^ 23) / 2 ^ k) (by (b / 2 ^ 23) j z.1)
      ∙ shifted_down (2 ^ 23 + b % 2 ^ 23) j (le' j z.3)
      ∙ sym z.4
    where
      by : (e j : ℕ) → e ≡ suc j → 150 - e ≡ 149 - j
      by e j p = omega arith

      le' : (j : ℕ) → j < 139 → j ≤ 149
      le' j p = omega arith
