-- `write_row` meets its contract. The invariant: the first i samples are written. Assumes nothing.
use native.Mathlib.Omega.{arith}
use mathlib.Core.Path.{refl, sym, ap}
use lib.IntN.{pos}
use lib.Ieee.{nan}
use lib.ListN.{get_or, length-set}
use mir.Syntax.{w32}
use borrow.Author.Rules.{sfits_of}
use Rattle.signed.proofs.Bound.{back, exact}
use Rattle.signed.proofs.Range.{inside-abs}
use Rattle.lists.specs.Block.{sample}
use Rattle.lists.proofs.Fill.{filled_none, filled_more}
use Rattle.plane_windows.proofs.write.write_row.Goals as goal

pub loop-i-init : goal.loop-i-init
loop-i-init c = (omega arith, refl, sym (filled_none _ _))

pub int_to_float-row : goal.int_to_float-row
int_to_float-row c =
    let z = get_or c.args.from.now c.loop-i.i (pos 0) in
    rw (back w32 {z = z} (sfits_of c.row-1.given)) (exact z (omega (arith, inside-abs 4095 z (c.requires.1 c.loop-i.i (omega arith)))))

pub loop-i-preserved : goal.loop-i-preserved
loop-i-preserved c =
    let l = c.loop-i in
    let z = back w32 {z = get_or c.args.from.now l.i (pos 0)} (sfits_of c.row-1.given) in
    (omega arith, simp length-set l.invariant.1, filled_more l.i _ _ _ _ nan (omega arith) l.invariant.2 (ap sample z))
