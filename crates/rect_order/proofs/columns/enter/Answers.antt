-- `enter` meets its contract: the first m numbers of the row are entered. Assumes nothing.
use native.Mathlib.Omega.{arith}
use mathlib.Core.Path.{◌≡◌, sym, ◌∙◌}
use lib.ListN.{length-set}
use mir.Syntax.{w16}
use borrow.Author.Rules.{sfits_of}
use Rattle.signed.proofs.Bound.{back}
use Rattle.rect_order.proofs.Enter.{entered-none, entered-more}
use Rattle.rect_order.proofs.columns.enter.Goals as goal

pub overflow_mul-o : goal.overflow_mul-o
overflow_mul-o c = omega arith

pub loop-m-init : goal.loop-m-init
loop-m-init c = (omega arith, c.requires.0, entered-none _ _ _ c.requires.1)

pub overflow_add-number : goal.overflow_add-number
overflow_add-number c = omega arith

pub offset_bounds-table-o : goal.offset_bounds-table-o
offset_bounds-table-o c = omega arith

pub bounds-table-o : goal.bounds-table-o
bounds-table-o c = omega arith

pub overflow_mul-number : goal.overflow_mul-number
overflow_mul-number c = omega arith

pub overflow_add-number-in-loop-m : goal.overflow_add-number-in-loop-m
overflow_add-number-in-loop-m c = omega arith

pub offset_bounds-columns-m : goal.offset_bounds-columns-m
offset_bounds-columns-m c = omega arith

pub bounds-columns-m : goal.bounds-columns-m
bounds-columns-m c = omega arith

pub overflow_add-m : goal.overflow_add-m
overflow_add-m c = omega arith

pub loop-m-smaller : goal.loop-m-smaller
loop-m-smaller c = omega arith

pub loop-m-preserved : goal.loop-m-preserved
loop-m-preserved c =
    let k = c.loop-m in
    let s = c.before.before.before in
    let n = entered-more _ _ k.columns _ k.m s.requires.3 (omega arith) k.invariant.2 s.requires.4 in
    (omega arith, simp length-set k.invariant.1, rw (back w16 (sfits_of c.number-1.given)) n)

pub shape_of-columns : goal.shape_of-columns
shape_of-columns c = c.loop-m.invariant.1 ∙ sym c.requires.0

pub returns : goal.returns
returns c =
    let end : c.loop-m.m ≡ 24 = omega arith in
    rw end at c.loop-m.invariant.2
