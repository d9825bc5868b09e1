-- `cleared` meets its contract. Assumes nothing.
use mathlib.Core.Path.{◌≡◌}
use Prim.Native.Nat.{◌*◌, ◌%◌, ◌^◌, ◌<◌}
use native.Mathlib.Omega.{arith}
use lib.Signed.{shr_z}
use mir.Syntax.{w32, w64}
use mir.Val.{SFits}
use Rattle.signed.proofs.Bound.{b-fits, back, back-pos, sfits-abs}
use Rattle.signed.proofs.Naturals.{pow-le}
use Rattle.product_table.specs.Wide.{cleared}
use Rattle.fixed_product.proofs.Shift.{shr-fits}
use Rattle.fixed_product.proofs.Rounding.{one_shl}
use Rattle.product_table.proofs.Served.{cleared-small, shifted-wide}
use Rattle.product_table.proofs.cleared.Goals as goal

module _ (c : goal.Start) where
  shr= : SFits w32 (shr_z c.args.a (2 ^ c.args.s))
  shr= = shr-fits c.args.a (2 ^ c.args.s) c.ranges.a

  unit : (1 * 2 ^ c.args.s) % 2 ^ 32 ≡ 2 ^ c.args.s
  unit = one_shl c.args.s (omega (arith, c.requires))

  unit-small : 2 ^ c.args.s < 2 ^ 63
  unit-small = omega (arith, pow-le {i = c.args.s} {j = 7} c.requires)

  product : SFits w64 (cleared c.args.a c.args.s)
  product = b-fits w64 (cleared-small c.args.a c.args.s c.ranges.a c.requires) tt

pub overflow_shl-unit : goal.overflow_shl-unit
overflow_shl-unit c = omega (arith, c.requires)

pub overflow_shr-result : goal.overflow_shr-result
overflow_shr-result c = omega (arith, c.requires)

pub overflow_cast-result-2 : goal.overflow_cast-result-2
overflow_cast-result-2 c = simp (back w32 c.ranges.a, back w32 (shr= c)) (shifted-wide c.args.a (2 ^ c.args.s) c.ranges.a)

pub overflow_cast-result-3 : goal.overflow_cast-result-3
overflow_cast-result-3 c = simp (unit c) (sfits-abs w64 _ (unit-small c))

pub overflow_mul-result : goal.overflow_mul-result
overflow_mul-result c =
    simp (back w32 c.ranges.a, back w32 (shr= c), back w64 (shifted-wide c.args.a (2 ^ c.args.s) c.ranges.a), unit c, back-pos w64 (2 ^ c.args.s) (unit-small c))
    (product c)

pub returns : goal.returns
returns c =
    simp (
      back w32 c.ranges.a,
      back w32 (shr= c),
      back w64 (shifted-wide c.args.a (2 ^ c.args.s) c.ranges.a),
      unit c,
      back-pos w64 (2 ^ c.args.s) (unit-small c),
      back w64 (product c),
    )
