-- `kept_product` meets its contract: the table has what is kept beside b's digits. Assumes nothing.
use mathlib.Core.Path.{◌≡◌, sym, ap, subst}
use Prim.Native.Nat.{ℕ, ◌+◌, ◌-◌, ◌/◌, ◌^◌, ◌≤◌, ◌<◌}
use native.Mathlib.Omega.{arith}
use lib.Bits.{bit_and}
use lib.Dec.{T}
use lib.IntN.{ℤ, pos, nat_abs}
use lib.ListN.{get_or}
use lib.Signed.{non_neg}
use mir.Syntax.{w32, w64}
use mir.Val.{SFits, Fits}
use Rattle.signed.proofs.Range.{inside-abs, inside-pos}
use Rattle.signed.proofs.Bound.{back, back-pos, sfits-abs, b-fits}
use Rattle.fixed_product.specs.Product.{over}
use Rattle.product_table.specs.Wide.{cleared, mask, kept_product}
use Rattle.fixed_product.proofs.Thru.{thru}
use Rattle.product_table.proofs.Served.{zeros, place, place-few, place_is, first-is, second_is, first_small, kept_small, product_small}
use Rattle.product_table.proofs.kept_product.Goals as goal

module _ (s : goal.Start) where
  abbrev a : ℤ
  a = s.args.a

  abbrev n : ℕ
  n = nat_abs s.args.b

  small : n ≤ 4095
  small = inside-abs 4095 s.args.b s.requires.1

  b= : nat_abs (thru s.args.b) ≡ n
  b= = ap nat_abs (back w32 s.ranges.b)

  abbrev z : ℕ
  z = place a n s.ranges.a small

  z-few : z < 12
  z-few = place-few a n s.ranges.a small

  abbrev first : ℤ
  first = cleared a (over a (pos n) / 2)

  abbrev last : ℕ
  last = mask (over a (pos n) - over a (pos n) / 2)

  first= : get_or s.args.table.now z (pos 0) ≡ first
  first= = first-is a n s.ranges.a small s.args.table.now s.requires.0

  last= : get_or s.args.table.now (12 + z) (pos 0) ≡ pos last
  last= = second_is a n s.ranges.a small s.args.table.now s.requires.0

  first_fits : SFits w64 first
  first_fits = b-fits w64 (first_small a n s.ranges.a small) tt

  last_fits : SFits w64 (pos last)
  last_fits = sfits-abs w64 (pos last) (omega arith)

  kept-fits : bit_and n last < 2 ^ 63
  kept-fits = omega (arith, kept_small a n s.ranges.a small)

  product-fits : SFits w64 (kept_product a (pos n))
  product-fits = b-fits w64 (product_small a n s.ranges.a small) tt

  b-is : s.args.b ≡ pos n
  b-is = inside-pos 4095 s.args.b s.requires.1

pub overflow_cast-n : goal.overflow_cast-n
overflow_cast-n c =
    simp (back w32 c.ranges.b)
    (subst (λ (z : ℤ). T (non_neg z) × Fits w32 (nat_abs z)) (sym (b-is c)) (tt, record { fits = omega (arith, small c) }))

pub overflow_cast-z : goal.overflow_cast-z
overflow_cast-z c = simp (b= c) (record { fits = omega (arith, zeros (a c) (n c) c.ranges.a (small c)) })

pub overflow_sub-z : goal.overflow_sub-z
overflow_sub-z c = simp (b= c) (omega (arith, place_is (a c) (n c) c.ranges.a (small c)))

pub overflow_add-kept : goal.overflow_add-kept
overflow_add-kept c = simp (b= c) (record { fits = omega (arith, z-few c) })

pub offset_bounds-table-z : goal.offset_bounds-table-z
offset_bounds-table-z c = simp (b= c) (record { fits = omega (arith, z-few c) })

pub bounds-table-z : goal.bounds-table-z
bounds-table-z c = simp (b= c) (omega (arith, z-few c, c.requires.0.long))

pub overflow_cast-kept : goal.overflow_cast-kept
overflow_cast-kept c = let s = c.before in simp (b= s, last= s, back w64 (last_fits s)) (tt, record { fits = omega arith })

pub offset_bounds-table-z-2 : goal.offset_bounds-table-z-2
offset_bounds-table-z-2 c = let s = c.before in simp (b= s) (record { fits = omega (arith, z-few s) })

pub bounds-table-z-2 : goal.bounds-table-z-2
bounds-table-z-2 c = let s = c.before in simp (b= s) (omega (arith, z-few s, s.requires.0.long))

pub overflow_cast-result : goal.overflow_cast-result
overflow_cast-result c = let s = c.before.before in simp (b= s, last= s, back w64 (last_fits s)) (sfits-abs w64 _ (kept-fits s))

pub overflow_mul-result : goal.overflow_mul-result
unfolding kept_product
overflow_mul-result c =
    let s = c.before.before in
    simp (b= s, last= s, back w64 (last_fits s), back-pos w64 _ (kept-fits s), first= s, back w64 (first_fits s)) (product-fits s)

pub returns : goal.returns
unfolding kept_product
returns c =
    let s = c.before.before in
    simp (b= s, last= s, back w64 (last_fits s), back-pos w64 _ (kept-fits s), first= s, back w64 (first_fits s), back w64 (product-fits s))
    (ap (kept_product (a s)) (sym (b-is s)))
