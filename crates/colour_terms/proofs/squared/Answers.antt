-- `squared` meets its contract: a square of twelve digits, and what is added, fit. Assumes nothing.
use mathlib.Core.Path.{sym, subst}
use Prim.Native.Nat.{◌-◌, ◌≤◌, ◌^◌}
use native.Mathlib.Omega.{arith}
use lib.IntN.{ℤ, nat_abs, ◌+ℤ◌, ◌*ℤ◌}
use lib.Signed.{shr_z}
use mir.Syntax.{w32}
use mir.Val.{SFits}
use Rattle.signed.proofs.Bound.{Bound, b-abs, b-add, b-mul, b-shr, b-fits, back}
use Rattle.signed.proofs.Range.{inside-abs}
use Rattle.colour_terms.specs.Terms.{middle, squared}
use Rattle.signed.proofs.Naturals.{pow-le}
use Rattle.colour_terms.proofs.squared.Goals as goal

module _ (c : goal.Start) where
  abbrev x : ℤ
  x = c.args.c

  x-most : Bound 4095 x
  x-most = b-abs (inside-abs 4095 x c.requires.0)

  mid-most : Bound 2048 c.args.mid
  mid-most =
      let h : middle c.args.bits ≤ 2 ^ 11 = pow-le {i = c.args.bits - 1} {j = 11} (omega (arith, c.requires.2)) in
      b-abs (subst (λ (z : ℤ). nat_abs z ≤ 2048) (sym c.requires.1) h)

  m : SFits w32 (x *ℤ x)
  m = b-fits w32 (b-mul x-most x-most) tt

  a : SFits w32 (x *ℤ x +ℤ c.args.mid)
  a = b-fits w32 (b-add (b-mul x-most x-most) mid-most) tt

  r : SFits w32 (shr_z (x *ℤ x +ℤ c.args.mid) (2 ^ c.args.bits))
  r = b-fits w32 (b-shr (2 ^ c.args.bits) (b-add (b-mul x-most x-most) mid-most)) tt

pub overflow_mul-result : goal.overflow_mul-result
overflow_mul-result c = simp (back w32 c.ranges.c) (m c)

pub overflow_add-result : goal.overflow_add-result
overflow_add-result c = simp (back w32 c.ranges.c, back w32 c.ranges.mid, back w32 (m c)) (a c)

pub returns : goal.returns
unfolding squared
returns c = simp (back w32 c.ranges.c, back w32 c.ranges.mid, back w32 (m c), back w32 (a c), back w32 (r c), sym c.requires.1)
