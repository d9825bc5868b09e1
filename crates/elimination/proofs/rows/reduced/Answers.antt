-- `reduced` meets its contract. Assumes nothing.
use mathlib.Core.Path.{◌≡◌, sym, ap, ◌∙◌, subst}
use Prim.Native.Nat.{◌+◌, ◌≤◌, ◌^◌}
use native.Mathlib.Omega.{arith}
use lib.IntN.{ℤ, nat_abs, ◌-ℤ◌}
use mir.Syntax.{w32}
use mir.Val.{SFits, to_z, of_z}
use borrow.Author.Rules.{sfits_of}
use Rattle.signed.proofs.Bound.{abs-sub, sfits-abs, back}
use Rattle.fixed_product.specs.Product.{mul_fixed}
use Rattle.elimination.specs.Rows.{reduced}
use Rattle.fixed_product.proofs.Bounds.{mul-late}
use Rattle.elimination.proofs.rows.reduced.Goals as goal
use Rattle.elimination.proofs.rows.reduced.Lts as lts
use Rattle.elimination.proofs.rows.reduced.Reads as reads
use Rattle.elimination.proofs.rows.reduced.Tie as tie

abbrev At-Start : Type 0
At-Start = lts.Start tie.the-claims reads.Pre reads.Post

reduced-most : (v f u : ℤ) → SFits w32 f → SFits w32 u → nat_abs (reduced v f u) ≤ nat_abs v + 2 ^ 29
unfolding reduced
reduced-most v f u hf hu =
    omega (arith, abs-sub v (mul_fixed f u 16), mul-late f u hf hu 16 (omega arith))

module _ (c : goal.After-mul_fixed32_adapt) where
  abbrev s : At-Start
  s = c.before

  most : nat_abs (reduced s.args.v s.args.f s.args.u) ≤ nat_abs s.args.v + 2 ^ 29
  most = reduced-most s.args.v s.args.f s.args.u s.ranges.f s.ranges.u

  fits : SFits w32 (reduced s.args.v s.args.f s.args.u)
  fits = sfits-abs w32 _ (omega (arith, most, s.requires))

  is : to_z w32 (of_z w32 s.args.v) -ℤ to_z w32 (of_z w32 c.mul_fixed32_adapt.result) ≡ reduced s.args.v s.args.f s.args.u
  unfolding reduced
  is =
      simp (back w32 s.ranges.v, back w32 {z = c.mul_fixed32_adapt.result} (sfits_of c.mul_fixed32_adapt.type_inv))
      (ap (λ (z : ℤ). s.args.v -ℤ z) (simp (back w32 s.ranges.f, back w32 s.ranges.u) at c.mul_fixed32_adapt.ensures))

pub overflow_sub-result : goal.overflow_sub-result
overflow_sub-result c = subst (SFits w32) (sym (is c)) (fits c)

pub returns : goal.returns
returns c =
    let e = ap (λ (z : ℤ). to_z w32 (of_z w32 z)) (is c) ∙ back w32 (fits c) in
    (e, subst (λ (z : ℤ). nat_abs z ≤ nat_abs (s c).args.v + 2 ^ 29) (sym e) (most c))
