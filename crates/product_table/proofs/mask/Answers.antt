-- `mask` meets its contract. Assumes nothing.
use mathlib.Core.Path.{◌≡◌}
use Prim.Native.Nat.{◌-◌, ◌*◌, ◌%◌, ◌^◌, ◌≤◌}
use native.Mathlib.Omega.{arith}
use mir.Syntax.{w64}
use Rattle.signed.proofs.Bound.{back-pos, sfits-abs}
use Rattle.signed.proofs.Naturals.{pow-le}
use Rattle.fixed_product.proofs.Rounding.{one_shl}
use Rattle.product_table.proofs.mask.Goals as goal

module _ (c : goal.Start) where
  unit : (1 * 2 ^ c.args.s) % 2 ^ 32 ≡ 2 ^ c.args.s
  unit = one_shl c.args.s (omega (arith, c.requires))

  unit-small : 2 ^ c.args.s ≤ 256
  unit-small = pow-le {i = c.args.s} {j = 8} c.requires

pub overflow_shl-unit : goal.overflow_shl-unit
overflow_shl-unit c = omega (arith, c.requires)

pub overflow_sub-result : goal.overflow_sub-result
overflow_sub-result c = simp (unit c) (omega (arith, unit-small c))

pub overflow_cast-result : goal.overflow_cast-result
overflow_cast-result c = simp (unit c) (sfits-abs w64 _ (omega arith))

pub returns : goal.returns
returns c = simp (unit c) (back-pos w64 (4096 - 2 ^ c.args.s) (omega arith))
