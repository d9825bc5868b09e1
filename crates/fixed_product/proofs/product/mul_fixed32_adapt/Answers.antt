-- `mul_fixed32_adapt` meets its contract. Assumes nothing.
use mathlib.Core.Path.{◌≡◌, ap₂, ◌∙◌}
use Prim.Native.Nat.{ℕ, ◌+◌, ◌-◌, ◌/◌, ◌^◌}
use lib.IntN.{ℤ}
use lib.Signed.{shr_z}
use mir.Syntax.{w32}
use mir.Val.{SFits}
use borrow.Author.Rules.{sfits_of}
use Rattle.signed.proofs.Bound.{back}
use Rattle.fixed_product.specs.Product.{over, narrow, mul_fixed}
use Rattle.fixed_product.proofs.Shift.{shr-fits}
use Rattle.fixed_product.proofs.Bounds.{narrow-30, narrow-fits}
use Rattle.fixed_product.proofs.product.mul_fixed32_adapt.Goals as goal
use Rattle.fixed_product.proofs.product.mul_fixed32_adapt.Lts as lts
use Rattle.fixed_product.proofs.product.mul_fixed32_adapt.Reads as reads
use Rattle.fixed_product.proofs.product.mul_fixed32_adapt.Tie as tie

abbrev At-Start : Type 0
At-Start = lts.Start tie.the-claims reads.Pre reads.Post

-- what is over, and the product of the shifted factors as it is read back
module _ (c : goal.After-saturating_sub-need) where
  abbrev s : At-Start
  s = c.before.before.before

  abbrev a : ℤ
  a = s.args.a

  abbrev b : ℤ
  b = s.args.b

  need : c.saturating_sub-need.result ≡ over a b
  unfolding over
  need =
      c.saturating_sub-need.ensures ∙
      ap₂ (λ (x y : ℕ). (x + y) - 29)
      (simp (back w32 s.ranges.a) at c.digits.ensures.0)
      (simp (back w32 s.ranges.b) at c.digits-2.ensures.0)

  fa : SFits w32 (shr_z a (2 ^ (over a b / 2)))
  fa = shr-fits a (2 ^ (over a b / 2)) s.ranges.a

  fb : SFits w32 (shr_z b (2 ^ (over a b - over a b / 2)))
  fb = shr-fits b (2 ^ (over a b - over a b / 2)) s.ranges.b

  fits : SFits w32 (narrow a b)
  fits = narrow-fits a b s.ranges.a s.ranges.b

pub overflow_mul-a : goal.overflow_mul-a
unfolding narrow
overflow_mul-a c =
    let s = s c in simp (need c, back w32 s.ranges.a, back w32 s.ranges.b, back w32 (fa c), back w32 (fb c)) (fits c)

pub rounded-requires : goal.rounded-requires
unfolding narrow
rounded-requires c =
    let x = c.before in
    let s = s x in
    simp (need x, back w32 s.ranges.a, back w32 s.ranges.b, back w32 (fa x), back w32 (fb x), back w32 (fits x))
    (narrow-30 (a x) (b x) s.ranges.a s.ranges.b)

pub returns : goal.returns
unfolding narrow mul_fixed
returns c =
    let x = c.before.before in
    let s = s x in
    back w32 {z = c.rounded.result} (sfits_of c.rounded.type_inv) ∙
    (simp (
      c.saturating_sub.ensures,
      need x,
      back w32 s.ranges.a,
      back w32 s.ranges.b,
      back w32 (fa x),
      back w32 (fb x),
      back w32 (fits x),
    ) at c.rounded.ensures)
