-- `chroma_long` meets its contract. The invariant: the first i samples are written. Assumes nothing.
use native.Mathlib.Omega.{arith}
use mathlib.Core.Path.{refl, sym, ◌∙◌}
use lib.ListN.{length, length-set}
use lib.Ieee.{nan}
use mir.Facts.{to_z-of_z}
use Rattle.lists.specs.Fill.{tab}
use Rattle.lists.proofs.Fill.{filled_none, filled_more, filled-all}
use Rattle.interpolation.proofs.chroma.chroma_long.Invariants.{row_of}
use Rattle.interpolation.proofs.chroma.chroma_long.Goals as goal

pub loop-i-init : goal.loop-i-init
loop-i-init c = (omega arith, refl, sym (filled_none _ _))

pub chroma_at-requires : goal.chroma_at-requires
chroma_at-requires c =
    let s = c.before.before.before in
    simp (to_z-of_z, s.ranges.g, s.ranges.f, s.ranges.m) record { i_in_bounds = (omega arith, λ i h. s.requires.row_in_bounds.1 i (omega arith)); g_bound = s.requires.g_bound }

pub offset_bounds-row-i : goal.offset_bounds-row-i
offset_bounds-row-i c = omega arith

pub bounds-row-i : goal.bounds-row-i
bounds-row-i c = omega arith

pub overflow_add-i : goal.overflow_add-i
overflow_add-i c = omega arith

pub loop-i-smaller : goal.loop-i-smaller
loop-i-smaller c = omega arith

pub loop-i-preserved : goal.loop-i-preserved
loop-i-preserved c =
    let k = c.before.before in
    (omega arith, simp length-set k.loop-i.invariant.1, filled_more k.loop-i.i _ _ _ _ nan (omega arith) k.loop-i.invariant.2 c.chroma_at.ensures)

pub shape_of-row : goal.shape_of-row
shape_of-row c = c.loop-i.invariant.1

pub returns : goal.returns
returns c =
    let s = c.before.before.before in
    c.loop-i.invariant.2
    ∙ filled-all c.loop-i.i _ _ (omega arith)
    ∙ (λ j. tab (length s.args.row.now) (row_of s.args.list.now (to_z-of_z s.ranges.g j) (to_z-of_z s.ranges.f j) (to_z-of_z s.ranges.m j)))
