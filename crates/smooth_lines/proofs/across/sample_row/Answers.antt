-- `sample_row` meets its contract. The invariant: the first c samples are written. Assumes nothing.
use native.Mathlib.Omega.{arith}
use mathlib.Core.Path.{refl, sym, ◌∙◌}
use lib.ListN.{length-set}
use lib.Ieee.{nan}
use Rattle.lists.proofs.Fill.{filled_none, filled_more, filled-all}
use Rattle.smooth_lines.proofs.across.sample_row.Goals as goal

pub loop-c-init : goal.loop-c-init
loop-c-init c = (omega arith, refl, sym (filled_none _ _))

pub offset_bounds-line-c : goal.offset_bounds-line-c
offset_bounds-line-c c = omega arith

pub bounds-line-c : goal.bounds-line-c
bounds-line-c c = omega arith

pub to_sample-requires : goal.to_sample-requires
to_sample-requires c =
    let l = c.before.before in
    l.requires.1 l.loop-c.c (omega arith)

pub offset_bounds-row-c : goal.offset_bounds-row-c
offset_bounds-row-c c = omega arith

pub bounds-row-c : goal.bounds-row-c
bounds-row-c c = omega arith

pub overflow_add-c : goal.overflow_add-c
overflow_add-c c = omega arith

pub loop-c-smaller : goal.loop-c-smaller
loop-c-smaller c = omega arith

pub loop-c-preserved : goal.loop-c-preserved
loop-c-preserved c =
    let l = c.loop-c in
    (omega arith, simp length-set l.invariant.1, filled_more l.c _ _ _ _ nan (omega arith) l.invariant.2 c.to_sample.ensures)

pub shape_of-row : goal.shape_of-row
shape_of-row c = c.loop-c.invariant.1

pub returns : goal.returns
returns c = c.loop-c.invariant.2 ∙ filled-all c.loop-c.c _ _ (omega arith)
