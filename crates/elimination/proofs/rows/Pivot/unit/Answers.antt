-- `Pivot::unit` meets its contract: the second factor, a reciprocal's scale, is not negative. Assumes nothing.
use mathlib.Core.Path.{◌≡◌, sym, ap, ◌∙◌, subst}
use Prim.Native.Nat.{◌≤◌, ◌^◌}
use lib.IntN.{ℤ, nat_abs}
use mir.Syntax.{w32}
use mir.Val.{SFits, to_z, of_z}
use borrow.Author.Rules.{sfits_of}
use Rattle.signed.proofs.Bound.{back}
use Rattle.fixed_product.specs.Product.{ilog2}
use Rattle.reciprocal.specs.Division.{scale_of}
use Rattle.elimination.specs.Rows.{unit, pivot}
use Rattle.fixed_product.proofs.Bounds.{mul-pos}
use Rattle.reciprocal.proofs.Range.{scale-range, scale-fits}
use Rattle.elimination.proofs.rows.Pivot.unit.Goals as goal

unit-most : (p v : ℤ) → SFits w32 v → nat_abs (unit p v) ≤ 2 ^ 29
unfolding unit
unit-most p v f = let b = scale-range (pivot p) in mul-pos v (scale_of (pivot p)) f (scale-fits (pivot p)) b.n (ilog2 (pivot p)) b.is

-- what came back
module _ (c : goal.After-mul_fixed32_adapt) where
  abbrev p : ℤ
  p = c.args.self.p

  scale : to_z w32 (of_z w32 c.args.self.inverse.scale) ≡ scale_of (pivot p)
  scale = ap (λ (z : ℤ). to_z w32 (of_z w32 z)) c.args.self.scale ∙ back w32 (scale-fits (pivot p))

  is : to_z w32 (of_z w32 c.mul_fixed32_adapt.result) ≡ unit p c.args.v
  unfolding unit
  is =
      back w32 {z = c.mul_fixed32_adapt.result} (sfits_of c.mul_fixed32_adapt.type_inv) ∙
      (simp (back w32 c.ranges.v, scale, c.args.self.shift) at c.mul_fixed32_adapt.ensures)

pub returns : goal.returns
returns c = (is c, subst (λ (z : ℤ). nat_abs z ≤ 2 ^ 29) (sym (is c)) (unit-most c.args.self.p c.args.v c.ranges.v))
