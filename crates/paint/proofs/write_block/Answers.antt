-- `write_block` meets its contract. The invariant: the first r rows are written, o is the place of row r, and k is r bs. Assumes nothing.
use Prim.Native.Nat.{◌+◌, ◌-◌, ◌*◌}
use native.Mathlib.Nat.{mul-le-mul_right, add-mul}
use native.Mathlib.Omega.{arith}
use mathlib.Core.Path.{◌≡◌, refl, sym, ◌∙◌, ap}
use lib.Ieee.{nan}
use mir.Syntax.{w32}
use mir.Val.{to_z, of_z}
use mir.Facts.{to_z-of_z}
use Rattle.lists.proofs.Block.{part_length}
use Rattle.paint.specs.Painted.{painted}
use Rattle.paint.proofs.RowByRow.{rows_of, painted-none}
use Rattle.paint.proofs.write_block.Answers.Loop.{part_at, again, first, start, room, near, lent, few}
use Rattle.paint.proofs.write_block.Invariants.{at}
use Rattle.paint.proofs.write_block.Goals as goal
mod Loop

pub overflow_mul-o : goal.overflow_mul-o
overflow_mul-o c = omega (arith, first c.before.before.before)

pub overflow_add-o : goal.overflow_add-o
overflow_add-o c = omega (arith, first c.before.before.before)

pub loop-r-init : goal.loop-r-init
loop-r-init c =
    let s = c.before.before.before in
    let z : s.args.y + 0 ≡ s.args.y = omega arith in
    (omega arith, ap (λ t. t * s.args.width + s.args.x) (sym z), omega arith, refl, sym (painted-none s.args.width s.args.x s.args.y s.args.bs s.requires.room.0.wide _ _))

pub overflow_add-e : goal.overflow_add-e
overflow_add-e c = omega (arith, near c.before)

pub overflow_add-n : goal.overflow_add-n
overflow_add-n c = omega (arith, few c.before)

pub offset_bounds-block-k : goal.offset_bounds-block-k
offset_bounds-block-k c = omega (arith, few c.before)

pub slice_bounds-add_row-count : goal.slice_bounds-add_row-count
slice_bounds-add_row-count c = omega arith

pub slice_bounds-add_row-start : goal.slice_bounds-add_row-start
slice_bounds-add_row-start c = omega arith

pub slice_bounds-add_row-end : goal.slice_bounds-add_row-end
slice_bounds-add_row-end c = (lent c.before).0

pub offset_bounds-differences-k : goal.offset_bounds-differences-k
offset_bounds-differences-k c = omega (arith, few c.before.before)

pub slice_bounds-add_row-count-in-loop-r : goal.slice_bounds-add_row-count-in-loop-r
slice_bounds-add_row-count-in-loop-r c = omega arith

pub offset_bounds-plane-o : goal.offset_bounds-plane-o
offset_bounds-plane-o c = omega (arith, near c.before.before.before)

pub slice_bounds-add_row-count-in-loop-r-2 : goal.slice_bounds-add_row-count-in-loop-r-2
slice_bounds-add_row-count-in-loop-r-2 c = omega arith

pub add_row-requires : goal.add_row-requires
add_row-requires c =
    let i = c.before.before.before.before in
    let k = i.before in
    let s = start i in
    let n = part_length k.loop-r.o s.args.bs k.loop-r.plane (room i) in
    let nb = part_length k.loop-r.k s.args.bs s.args.block.now (lent i).0 in
    let nd = part_length k.loop-r.k s.args.bs s.args.differences.now (lent i).1 in
    simp (to_z-of_z, s.ranges.m, n, nb, nd) record { row_in_bounds = (omega arith, omega arith); wholes = (λ j h. rw (part_at k.loop-r.k s.args.bs s.args.block.now j nan h) (s.requires.wholes.0 (k.loop-r.k + j) (omega (arith, mul-le-mul_right s.args.bs i.loop-r-test.true))), s.requires.wholes.1) }

pub overflow_add-o-in-loop-r : goal.overflow_add-o-in-loop-r
overflow_add-o-in-loop-r c = let i = c.before.before.before.before.before.before.before in omega (arith, near i, (start i).requires.room.0.near)

pub overflow_add-r : goal.overflow_add-r
overflow_add-r c = omega arith

pub loop-r-smaller : goal.loop-r-smaller
loop-r-smaller c = omega arith

pub loop-r-preserved : goal.loop-r-preserved
loop-r-preserved c =
    let i = c.before.before.before.before.before.before.before in
    let k = i.before in
    let s = start i in
    let e : s.args.y + (k.loop-r.r + 1) ≡ s.args.y + k.loop-r.r + 1 = omega arith in (
      omega arith,
      omega (arith, ap (λ t. t * s.args.width) e, add-mul (s.args.y + k.loop-r.r) 1 s.args.width),
      omega (arith, add-mul k.loop-r.r 1 s.args.bs),
      c.plane-1.given.1 ∙ k.loop-r.invariant.3,
      again s.args.width s.args.x s.args.y s.args.bs k.loop-r.r k.loop-r.o k.loop-r.k (to_z w32 (of_z w32 s.args.m)) s.args.block.now
          s.args.differences.now s.args.plane.now k.loop-r.plane _ s.requires.room.0.wide k.loop-r.invariant.1 k.loop-r.invariant.2 k.loop-r.invariant.3 k.loop-r.invariant.4 (room i)
          c.add_row.ensures,
    )

pub shape_of-plane : goal.shape_of-plane
shape_of-plane c = c.loop-r.invariant.3

pub returns : goal.returns
returns c =
    let k = c.before.before in
    let s = k.before.before.before in
    let e : k.loop-r.r ≡ s.args.bs = omega arith in
    k.loop-r.invariant.4
    ∙ (λ j. painted s.args.width (rows_of s.args.x s.args.y s.args.bs (e j)) (at (to_z-of_z s.ranges.m j) s.args.block.now s.args.differences.now s.args.bs) s.args.plane.now)
