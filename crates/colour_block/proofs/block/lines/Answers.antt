-- `lines` meets its contract. The invariant: the first j rows are written, o is j width, and s is where row j starts. Assumes nothing.
use Prim.Native.Nat.{ℕ, ◌+◌, ◌*◌, ◌≤◌}
use native.Mathlib.Nat.{mul-le-mul_right, mul_comm}
use native.Mathlib.Omega.{arith}
use mathlib.Core.Path.{◌≡◌, refl, sym, ◌∙◌, ap}
use lib.ListN.{length}
use Rattle.lists.specs.Fill.{filled}
use Rattle.lists.specs.Block.{rows}
use Rattle.lists.proofs.Fill.{filled_none}
use Rattle.lists.proofs.Block.{filled_row, part_length}
use Rattle.colour_row.specs.Mixed.{mixed}
use Rattle.colour_row.specs.Runs.{at}
use Rattle.colour_block.specs.Lines.{direction_entry, found}
use Rattle.colour_block.proofs.Taken.{line_of, line_at}
use Rattle.colour_block.proofs.block.lines.Goals as goal

module _ (c : goal.In-loop-j) where
  abbrev a : goal.Start
  a = c.before.before.before.before.before

  abbrev width : ℕ
  width = a.args.b.width

  -- the row lies in the output
  room : c.loop-j.o + width ≤ length c.loop-j.out
  room = omega (arith, mul-le-mul_right width c.loop-j-test.true, mul_comm width a.args.b.height, a.requires.block_accepted.long)

pub lead_of-lead-requires : goal.lead_of-lead-requires
lead_of-lead-requires c = c.requires.block_accepted.colour

pub overflow_mul-s : goal.overflow_mul-s
overflow_mul-s c = omega (arith, c.requires.block_accepted.place.above)

pub overflow_add-s : goal.overflow_add-s
overflow_add-s c = let g = c.requires.block_accepted.place in omega (arith, g.above, g.left)

pub loop-j-init : goal.loop-j-init
loop-j-init c = (omega arith, omega arith, omega arith, refl, sym (filled_none _ _))

pub overflow_add-e : goal.overflow_add-e
overflow_add-e c = omega (arith, room c)

pub step_of-requires : goal.step_of-requires
step_of-requires c = (a c).requires.block_accepted.colour

pub offset_bounds-out-o : goal.offset_bounds-out-o
offset_bounds-out-o c = omega (arith, room c.before)

pub slice_bounds-line-count : goal.slice_bounds-line-count
slice_bounds-line-count c = omega arith

pub slice_bounds-line-start : goal.slice_bounds-line-start
slice_bounds-line-start c = omega arith

pub slice_bounds-line-end : goal.slice_bounds-line-end
slice_bounds-line-end c = room c.before

pub line-requires : goal.line-requires
line-requires c =
    let l = c.before.before in
    let k = l.before in
    let a = a l in
    let m = part_length k.loop-j.o a.args.b.width k.loop-j.out (room l) in
    let r = line_of a.args.b _ a.requires.block_accepted.place a.args.k a.args.luma.now refl a.requires.mix_ready.1 a.requires.block_accepted.read k.loop-j.j l.loop-j-test.true in
    (a.requires.mix_ready.0, a.requires.mix_ready.2, line_at _ _ _ k.loop-j.j _ _ _ _ k.loop-j.invariant.2 c.before.step_of.ensures k.lead_of-lead.ensures m r)

pub overflow_add-s-in-loop-j : goal.overflow_add-s-in-loop-j
overflow_add-s-in-loop-j c =
    let l = c.before.before.before.before in
    let g = (a l).requires.block_accepted.place in
    omega (arith, g.above, g.left, g.high)

pub overflow_add-j : goal.overflow_add-j
overflow_add-j c = omega arith

pub loop-j-smaller : goal.loop-j-smaller
loop-j-smaller c = omega arith

pub loop-j-preserved : goal.loop-j-preserved
loop-j-preserved c =
    let t = c.before.before.before in
    let l = t.before in
    let k = l.before in
    let a = a l in
    let b = a.args.b in
    let mix = a.args.k in
    let luma = a.args.luma.now in
    let lead = k.lead_of-lead.ensures in (
      omega arith,
      omega arith,
      omega arith,
      c.out-1.given.1 ∙ k.loop-j.invariant.3,
      filled_row b.width k.loop-j.j k.loop-j.o (found mix luma b) _ _ _ _ k.loop-j.invariant.1 (room l) k.loop-j.invariant.4 c.line.ensures
          (λ i h x. mixed mix (at luma (direction_entry (k.loop-j.invariant.2 x) (t.step_of.ensures x) (lead x) i)) (at luma (k.loop-j.invariant.2 x + i))),
    )

pub shape_of-out : goal.shape_of-out
shape_of-out c = c.loop-j.invariant.3

pub returns : goal.returns
returns c =
    let k = c.before in
    let a = k.before.before.before.before in
    let b = a.args.b in
    let j : k.loop-j.j ≡ b.height = omega arith in
    k.loop-j.invariant.4
    ∙ ap (λ o. filled o (rows b.width (found a.args.k a.args.luma.now b)) a.args.out.now) (k.loop-j.invariant.1 ∙ ap (λ h. h * b.width) j)
