-- `put` meets its contract: the bounds fit 16 bits. Assumes nothing.
use Prim.Native.Nat.{◌+◌}
use native.Mathlib.Omega.{arith}
use lib.ListN.{length-set}
use mir.Syntax.{w16}
use Rattle.signed.proofs.Bound.{back-pos}
use Rattle.tower_order.specs.Tables.{with_rect}
use Rattle.tower_order.proofs.store.put.Goals as goal

pub bounds-table-p-2 : goal.bounds-table-p-2
bounds-table-p-2 c = simp length-set (omega arith)

pub bounds-table-p-3 : goal.bounds-table-p-3
bounds-table-p-3 c = simp length-set (omega arith)

pub bounds-table-p-4 : goal.bounds-table-p-4
bounds-table-p-4 c = simp length-set (omega arith)

pub returns : goal.returns
unfolding with_rect
returns c =
    let r = c.args.r in
    let x0 = back-pos w16 r.x (omega arith) in
    let x1 = back-pos w16 (r.x + r.w) (omega arith) in
    let y0 = back-pos w16 r.y (omega arith) in
    let y1 = back-pos w16 (r.y + r.h) (omega arith) in
    simp (x0, x1, y0, y1)
