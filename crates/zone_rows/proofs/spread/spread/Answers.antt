-- `spread` meets its contract. The invariant: the first j rows are written, and o is j w. Assumes nothing.
use Prim.Native.Nat.{◌≤◌, ◌+◌}
use native.Mathlib.Nat.{mul-le-mul_right}
use native.Mathlib.Omega.{arith}
use mathlib.Core.Path.{refl, sym}
use lib.ListN.{length}
use Rattle.lists.proofs.Fill.{filled_none}
use Rattle.lists.proofs.Block.{filled_row}
use Rattle.zone_rows.proofs.spread.spread.Invariants.{at}
use Rattle.zone_rows.proofs.spread.spread.Goals as goal

pub loop-j-init : goal.loop-j-init
loop-j-init c = (omega arith, omega arith, refl, sym (filled_none _ _))

pub loop-j-preserved : goal.loop-j-preserved
loop-j-preserved c =
    let room : c.loop-j.o + c.args.w ≤ length c.loop-j.out = omega (arith, mul-le-mul_right c.args.w c.loop-j-test.true) in (
      omega arith,
      omega arith,
      omega arith,
      filled_row c.args.w c.loop-j.j c.loop-j.o (at c.args.strip.now) _ _ _ _ c.loop-j.invariant.1 room c.loop-j.invariant.3 c.spread_row.ensures
          (λ i h. refl),
    )
