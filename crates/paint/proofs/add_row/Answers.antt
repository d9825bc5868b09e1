-- `add_row` meets its contract. The invariant: the first c samples are written. Assumes nothing.
use borrow.Author.Rules.{sfits_of}
use native.Mathlib.Omega.{arith}
use mathlib.Core.Path.{refl, sym, ◌∙◌, ap}
use lib.ListN.{length, get_or, length-set}
use lib.IntN.{pos}
use lib.Ieee.{nan}
use mir.Syntax.{w16, w32}
use mir.Val.{SFits, to_z, of_z}
use Rattle.signed.proofs.Bound.{back}
use mir.Facts.{to_z-of_z}
use Rattle.lists.specs.Fill.{tab}
use Rattle.lists.proofs.Fill.{filled_none, filled_more, filled-all}
use Rattle.paint.specs.Block.{with_difference, added_at}
use Rattle.paint.proofs.add_row.Goals as goal

pub loop-c-init : goal.loop-c-init
loop-c-init c = (omega arith, refl, sym (filled_none _ _))

pub offset_bounds-block-c : goal.offset_bounds-block-c
offset_bounds-block-c c = omega arith

pub bounds-block-c : goal.bounds-block-c
bounds-block-c c = omega arith

pub offset_bounds-differences-c : goal.offset_bounds-differences-c
offset_bounds-differences-c c = omega arith

pub bounds-differences-c : goal.bounds-differences-c
bounds-differences-c c = omega arith

pub add-requires : goal.add-requires
add-requires c =
    let s = c.before.before.before.before.before.before in
    simp (to_z-of_z, s.ranges.m) (s.requires.wholes.0 c.loop-c.c (omega arith), s.requires.wholes.1)

pub offset_bounds-row-c : goal.offset_bounds-row-c
offset_bounds-row-c c = omega arith

pub bounds-row-c : goal.bounds-row-c
bounds-row-c c = omega arith

pub overflow_add-c : goal.overflow_add-c
overflow_add-c c = omega arith

pub loop-c-smaller : goal.loop-c-smaller
loop-c-smaller c = omega arith

fit : (c : goal.After-add) → SFits w16 (get_or c.args.differences.now c.loop-c.c (pos 0))
fit c = sfits_of c.add-arg-1.given

pub loop-c-preserved : goal.loop-c-preserved
loop-c-preserved c =
    let k = c.before.before.before.before in
    let s = k.before.before.before in
    (omega arith, simp length-set k.loop-c.invariant.1, filled_more k.loop-c.c _ _ _ _ nan (omega arith) k.loop-c.invariant.2 (c.add.ensures ∙ ap (with_difference (to_z w32 (of_z w32 s.args.m)) (get_or s.args.block.now k.loop-c.c nan)) (back w16 {z = get_or s.args.differences.now k.loop-c.c (pos 0)} (fit c))))

pub shape_of-row : goal.shape_of-row
shape_of-row c = c.loop-c.invariant.1

pub returns : goal.returns
returns c =
    let s = c.before.before.before.before in
    c.loop-c.invariant.2
    ∙ filled-all c.loop-c.c _ _ (omega arith)
    ∙ (λ j. tab (length s.args.row.now) (added_at (to_z-of_z s.ranges.m j) s.args.block.now s.args.differences.now))
