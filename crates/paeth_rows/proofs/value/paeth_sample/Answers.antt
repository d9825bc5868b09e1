-- `paeth_sample` meets its contract: the choice is one of three small numbers, so the cast is exact. Assumes nothing.
use native.Mathlib.Omega.{arith}
use mathlib.Core.Path.{◌≡◌, ◌∙◌, ap}
use Prim.Native.Nat.{◌≤◌}
use lib.IntN.{ℤ, nat_abs}
use mir.Val.{to_z, of_z}
use mir.Facts.{to_z-of_z}
use mir.Syntax.{w32}
use Rattle.lists.specs.Block.{sample}
use Rattle.signed.proofs.Bound.{back-abs, exact}
use Rattle.paeth_rows.specs.Chosen.{chosen}
use Rattle.paeth_rows.proofs.Laws.{chosen-small}
use Rattle.paeth_rows.proofs.value.paeth_sample.Goals as goal

pub paeth_single-requires : goal.paeth_single-requires
paeth_single-requires c = simp (to_z-of_z, c.ranges.left, c.ranges.top, c.ranges.corner) c.requires

module _ (l t k z : ℤ) (is : z ≡ chosen l t k) (p : (nat_abs l ≤ 4095) × (nat_abs t ≤ 4095) × (nat_abs k ≤ 4095)) where
  small : nat_abs z ≤ 4095
  small = rw is (chosen-small 4095 _ _ _ p.0 p.1 p.2)

  back : to_z w32 (of_z w32 z) ≡ z
  back = back-abs w32 z (omega (arith, small))

pub int_to_float-result : goal.int_to_float-result
int_to_float-result c =
    let is = simp (to_z-of_z, c.ranges.left, c.ranges.top, c.ranges.corner) at c.paeth_single.ensures in
    rw (back _ _ _ _ is c.requires) (exact c.paeth_single.result (omega (arith, small _ _ _ _ is c.requires)))

pub returns : goal.returns
returns c =
    let is = simp (to_z-of_z, c.ranges.left, c.ranges.top, c.ranges.corner) at c.paeth_single.ensures in
    ap sample (back _ _ _ _ is c.requires ∙ is)
