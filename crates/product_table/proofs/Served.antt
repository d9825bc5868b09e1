-- What a first factor's table has for a second factor in 0..4095, and how large the product by it is before the shift. Assumes nothing.
use mathlib.Core.Path.{◌≡◌, ap, ◌∙◌}
use Prim.Native.Nat.{ℕ, ◌+◌, ◌-◌, ◌*◌, ◌/◌, ◌^◌, ◌≤◌, ◌<◌}
use mathlib.Core.List.{List}
use native.Mathlib.Omega.{arith}
use native.Mathlib.Nat as N
use lib.Bits.{bit_and, bit_or, and_le_l}
use lib.Count.{count_leading_zeros}
use lib.IntN.{ℤ, pos, negsuc, nat_abs, ◌+ℤ◌}
use lib.ListN.{get_or}
use lib.Signed.{shr_z}
use mir.Syntax.{w32, w64}
use mir.Val.{SFits}
use Rattle.signed.proofs.Bound.{Bound, b-abs, b-pos, b-add, b-mul, abs-shr, sfits-abs}
use Rattle.signed.proofs.Naturals.{pow-le}
use Rattle.signed.proofs.Range.{pos-inside}
use Rattle.fixed_product.specs.Product.{ilog2, digits, over}
use Rattle.product_table.specs.Wide.{over_by, cleared, mask, kept_product, half_of, WideTable}
use Rattle.fixed_product.proofs.Shift.{odd, ilog2-is, ilog2-odd}
use Rattle.fixed_product.proofs.Bounds.{digits_of}
use Rattle.fixed_product.proofs.Short.{digits-twelve, over-few}

pub half-small : (a : ℤ) → nat_abs (half_of a) ≤ 32768
half-small (pos n) = omega arith
half-small (negsuc n) = omega arith

-- beside a second factor of at most 12 digits at most 15 are over
pub over-by-few : (a : ℤ) (d : ℕ) → SFits w32 a → d ≤ 12 → over_by a d ≤ 15
over-by-few a d f h = omega (arith, (digits_of a f).all)

abs-small : (a : ℤ) → SFits w32 a → nat_abs a ≤ 2 ^ 32
abs-small a f = let d = digits_of a f in N.le_trans (N.le_of_lt d.abs) (pow-le d.all)

-- a shifted number, in a wider type
pub shifted-wide : (a : ℤ) (m : ℕ) → SFits w32 a → SFits w64 (shr_z a m)
shifted-wide a m f = sfits-abs w64 (shr_z a m) (omega (arith, abs-shr a m, abs-small a f))

pub cleared-small : (a : ℤ) (s : ℕ) → SFits w32 a → s ≤ 7 → Bound (2 ^ 32 * 2 ^ 7) (cleared a s)
cleared-small a s f h =
    b-mul {a = shr_z a (2 ^ s)} (b-abs (N.le_trans (abs-shr a (2 ^ s)) (abs-small a f))) (b-pos (2 ^ s) (pow-le {i = s} {j = 7} h))

module _ (a : ℤ) (n : ℕ) (f : SFits w32 a) (h : n ≤ 4095) where
  abbrev s1 : ℕ
  s1 = over a (pos n) / 2

  abbrev s2 : ℕ
  s2 = over a (pos n) - over a (pos n) / 2

  pub few : over a (pos n) ≤ 15
  few = over-few a (pos n) f (pos-inside 4095 n h)

  few-digits : ilog2 n < 12
  unfolding digits
  few-digits = omega (arith, digits-twelve (pos n) (pos-inside 4095 n h))

  -- so many of twelve digits stand before n
  pub zeros : count_leading_zeros 32 (bit_or n 1) + ilog2 n ≡ 31
  zeros =
      let l = (ilog2-is (bit_or n 1) (omega (arith, odd n)) (omega (arith, odd n))).1 in
      omega (arith, ilog2-odd n (omega arith))

  abbrev pub place : ℕ
  place = count_leading_zeros 32 (bit_or n 1) - 20

  pub place-few : place < 12
  place-few = omega (arith, zeros)

  pub place_is : place + 20 ≡ count_leading_zeros 32 (bit_or n 1)
  place_is = omega (arith, zeros, few-digits)

  over-is : over_by a (12 - place) ≡ over a (pos n)
  unfolding over digits
  over-is = omega (arith, zeros, few-digits)

  module _ (table : List ℤ) (w : WideTable a table) where
    pub first-is : get_or table place (pos 0) ≡ cleared a s1
    first-is = w.first place place-few ∙ ap (λ (o : ℕ). cleared a (o / 2)) over-is

    pub second_is : get_or table (12 + place) (pos 0) ≡ pos (mask s2)
    second_is = w.second place place-few ∙ ap (λ (o : ℕ). pos (mask (o - o / 2))) over-is

  pub first_small : Bound (2 ^ 32 * 2 ^ 7) (cleared a s1)
  first_small = cleared-small a s1 f (omega (arith, few))

  pub kept_small : bit_and n (mask s2) ≤ 4095
  kept_small = N.le_trans (and_le_l n (mask s2)) h

  pub product_small : Bound (2 ^ 32 * 2 ^ 7 * 4095) (kept_product a (pos n))
  unfolding kept_product
  product_small = b-mul {a = cleared a s1} first_small (b-pos _ kept_small)

  pub sum-small : Bound (2 ^ 32 * 2 ^ 7 * 4095 + 32768) (kept_product a (pos n) +ℤ half_of a)
  sum-small = b-add product_small (b-abs (half-small a))
