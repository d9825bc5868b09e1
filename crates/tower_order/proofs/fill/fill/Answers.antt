-- `fill` meets its contract: the rows below i are filled. Assumes nothing.
use mathlib.Core.Path.{◌≡◌, refl}
use native.Mathlib.Omega.{arith}
use Rattle.tower_order.proofs.Filled.{filled_none, filled_more}
use Rattle.tower_order.proofs.fill.fill.Goals as goal

pub loop-i-init : goal.loop-i-init
loop-i-init c = (omega arith, refl, filled_none _ _ _ _ _ c.requires.4)

pub fill_row-requires : goal.fill_row-requires
fill_row-requires c =
    let p = c.requires in
    (p.0, p.1, omega arith, omega (arith, c.loop-i.invariant.1), c.loop-i.invariant.2.plain)

pub overflow_add-i : goal.overflow_add-i
overflow_add-i c = omega arith

pub loop-i-smaller : goal.loop-i-smaller
loop-i-smaller c = omega arith

pub loop-i-preserved : goal.loop-i-preserved
loop-i-preserved c =
    (omega arith, omega arith, filled_more _ _ _ _ _ _ _ c.loop-i.invariant.2 c.fill_row.ensures)

pub shape_of-table : goal.shape_of-table
shape_of-table c = c.loop-i.invariant.1

pub returns : goal.returns
returns c =
    let l = c.loop-i in
    let end : l.i ≡ c.args.rows = omega arith in
    rw end at l.invariant.2
