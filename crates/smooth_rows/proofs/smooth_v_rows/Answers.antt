-- `smooth_v_rows` meets its contract. The invariant: the first r rows are written, and o is r bs. Assumes nothing.
use Prim.Native.Nat.{◌≤◌, ◌+◌}
use native.Mathlib.Omega.{arith}
use mathlib.Core.Path.{refl, sym}
use lib.ListN.{length}
use Rattle.lists.proofs.Fill.{filled_none}
use Rattle.lists.proofs.Block.{filled_row}
use Rattle.lists.proofs.RowLoop.{row_room, all-rows}
use Rattle.smooth_rows.proofs.smooth_v_rows.Invariants.{at}
use Rattle.smooth_rows.proofs.smooth_v_rows.Goals as goal

pub loop-r-init : goal.loop-r-init
loop-r-init c = (omega arith, omega arith, refl, sym (filled_none _ _))

pub loop-r-preserved : goal.loop-r-preserved
loop-r-preserved c =
    let l = c.loop-r in
    let a = c.args in
    let room : l.o + a.bs ≤ length l.out = row_room a.bs l.invariant.1 c.loop-r-test.true c.requires.entries.2 l.invariant.2 in (
      omega arith,
      omega arith,
      omega arith,
      filled_row a.bs l.r l.o (at a.bs a.above.now a.e a.weights.now) _ _ _ _
          l.invariant.1 room l.invariant.3 c.weighted_row.ensures (λ j h. refl),
    )

pub returns : goal.returns
returns c =
    let l = c.loop-r in
    let B = c.args.bs in
    all-rows B B l.r l.o _ _ _ l.invariant.1 l.invariant.0 (omega arith) l.invariant.3
