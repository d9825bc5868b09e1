-- `mul_wide` meets its contract: nothing wraps before the shift, which gives the definition's product. Assumes nothing.
use borrow.Author.Rules.{sfits_of}
use mathlib.Core.Path.{◌≡◌, sym, ap, ◌∙◌, subst}
use Prim.Native.Nat.{◌+◌, ◌*◌, ◌^◌, ◌≤◌}
use native.Mathlib.Omega.{arith}
use lib.IntN.{ℤ, pos, nat_abs, ◌+ℤ◌}
use lib.Signed.{shr_z}
use mir.Syntax.{w32, w64}
use mir.Val.{SFits, to_z, of_z}
use Rattle.signed.proofs.Range.{inside-abs, inside-pos}
use Rattle.signed.proofs.Bound.{Bound, back, sfits-abs, b-fits, b-shr}
use Rattle.fixed_product.specs.Product.{mul_fixed}
use Rattle.product_table.specs.Wide.{kept_product, half_of}
use Rattle.fixed_product.proofs.Bounds.{mul-fits}
use Rattle.fixed_product.proofs.Thru.{thru}
use Rattle.product_table.proofs.Kept.{wide_is}
use Rattle.product_table.proofs.Served.{few, half-small, sum-small}
use Rattle.product_table.proofs.mul_wide.Goals as goal

module _ (s : goal.Start) where
  abbrev a : ℤ
  a = s.args.a

  abbrev sum : ℤ
  sum = kept_product a s.args.b +ℤ half_of a

  small : nat_abs s.args.b ≤ 4095
  small = inside-abs 4095 s.args.b s.requires.1

  b-is : s.args.b ≡ pos (nat_abs s.args.b)
  b-is = inside-pos 4095 s.args.b s.requires.1

  sum-most : Bound (2 ^ 32 * 2 ^ 7 * 4095 + 32768) sum
  sum-most = subst (λ (z : ℤ). Bound (2 ^ 32 * 2 ^ 7 * 4095 + 32768) (kept_product a z +ℤ half_of a)) (sym b-is) (sum-small a (nat_abs s.args.b) s.ranges.a small)

  sum_fits : SFits w64 sum
  sum_fits = b-fits w64 sum-most tt

  shifted_fits : SFits w64 (shr_z sum 65536)
  shifted_fits = b-fits w64 (b-shr 65536 sum-most) tt

  half-fits : SFits w64 (half_of a)
  half-fits = sfits-abs w64 (half_of a) (omega (arith, half-small a))

  is : shr_z sum 65536 ≡ mul_fixed a s.args.b 16
  is =
      ap (λ (z : ℤ). shr_z (kept_product a z +ℤ half_of a) 65536) b-is
      ∙ wide_is a (nat_abs s.args.b) (few a (nat_abs s.args.b) s.ranges.a small) (omega (arith, small))
      ∙ ap (λ (z : ℤ). mul_fixed a z 16) (sym b-is)

  result_fits : SFits w32 (shr_z sum 65536)
  result_fits = subst (SFits w32) (sym is) (mul-fits a s.args.b s.ranges.a s.ranges.b 16)

-- what the two calls gave
module _ (c : goal.After-half) where
  abbrev s : goal.Start
  s = c.before.before

  half= : thru c.half.result ≡ half_of (a s)
  half= = back w32 {z = c.half.result} (sfits_of c.half.type_inv) ∙ (simp (back w32 s.ranges.a) at c.half.ensures)

  product= : to_z w64 (of_z w64 c.kept_product.result) ≡ kept_product (a s) s.args.b
  product= =
      back w64 {z = c.kept_product.result} (sfits_of c.kept_product.type_inv)
      ∙ (simp (back w32 s.ranges.a, back w32 s.ranges.b) at c.kept_product.ensures)

pub kept_product-requires : goal.kept_product-requires
kept_product-requires c = simp (back w32 c.ranges.a, back w32 c.ranges.b) c.requires

pub overflow_cast-result : goal.overflow_cast-result
overflow_cast-result c = simp (half= c) (half-fits (s c))

pub overflow_add-result : goal.overflow_add-result
overflow_add-result c = simp (product= c, half= c, back w64 (half-fits (s c))) (sum_fits (s c))

pub overflow_cast-result-2 : goal.overflow_cast-result-2
overflow_cast-result-2 c =
    let s = s c in
    simp (product= c, half= c, back w64 (half-fits s), back w64 (sum_fits s), back w64 (shifted_fits s)) (result_fits s)

pub returns : goal.returns
returns c =
    let s = s c in
    simp (product= c, half= c, back w64 (half-fits s), back w64 (sum_fits s), back w64 (shifted_fits s)) (back w32 (result_fits s) ∙ is s)
