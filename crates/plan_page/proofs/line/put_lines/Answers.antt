-- `put_lines` meets its contract. The invariant: the lines of the first i rows are put. Assumes nothing.
use mathlib.Core.Path.{◌≡◌, refl, sym, ap}
use Prim.Native.Nat.{◌≤◌, ◌-◌, ◌+◌, ◌*◌}
use native.Mathlib.Nat.{mul-le-mul_right}
use native.Mathlib.Omega.{arith}
use lib.ListN.{length, take, drop}
use Rattle.lists.proofs.Block.{part_length}
use Rattle.plan_page.specs.Page.{line_of, words_of_row, lines_to}
use Rattle.plan_page.proofs.Texts.{put-none, put_then, put_as}
use Rattle.plan_page.proofs.Lines.{lines_none, lines_more, lines-few}
use Rattle.plan_page.proofs.line.put_lines.Goals.{In-loop-i}
use Rattle.plan_page.proofs.line.put_lines.Goals as goal
use Rattle.plan_page.proofs.line.put_lines.Lts as lts
use Rattle.plan_page.proofs.line.put_lines.Reads as reads
use Rattle.plan_page.proofs.line.put_lines.Tie as tie

abbrev At-Start : Type 0
At-Start = lts.Start tie.the-claims reads.Pre reads.Post goal.the-invariant-loop-i goal.the-decreases-loop-i

abbrev At-loop-i : Type 0
At-loop-i = lts.At-loop tie.the-claims reads.Pre reads.Post goal.the-invariant-loop-i goal.the-decreases-loop-i

-- row i is in the plan, and its line has room
module _ (c : In-loop-i) where
  abbrev l : At-loop-i
  l = c.before.before

  abbrev s : At-Start
  s = l.before.before.before

  row-there : l.loop-i.start + s.args.words ≤ length s.args.plan.now
  row-there = omega (arith, mul-le-mul_right {m = l.loop-i.i + 1} {n = s.args.n} s.args.words (omega arith), s.requires.1)

  line-room : l.loop-i.end + 6 * (s.args.words + 1) ≤ length s.args.out.now
  line-room =
      omega (
        arith,
        l.loop-i.invariant.3.ends,
        lines-few s.args.words s.args.plan.now l.loop-i.i,
        mul-le-mul_right {m = l.loop-i.i + 1} {n = s.args.n} (6 * (s.args.words + 1)) (omega arith),
        s.requires.2,
      )

  row_is : take (l.loop-i.start + s.args.words - l.loop-i.start) (drop l.loop-i.start s.args.plan.now) ≡ words_of_row s.args.words s.args.plan.now l.loop-i.i
  row_is =
      let z : l.loop-i.start + s.args.words - l.loop-i.start ≡ s.args.words = omega arith in
      λ j. take (z j) (drop (l.loop-i.invariant.1 j) s.args.plan.now)

pub loop-i-init : goal.loop-i-init
loop-i-init c = (omega arith, omega arith, refl, put_as (sym (lines_none _ _)) refl (put-none _ _))

pub overflow_add-next : goal.overflow_add-next
overflow_add-next c = omega (arith, row-there c)

pub offset_bounds-plan-start : goal.offset_bounds-plan-start
offset_bounds-plan-start c = omega (arith, row-there c)

pub slice_bounds-put_line-count : goal.slice_bounds-put_line-count
slice_bounds-put_line-count c = omega arith

pub slice_bounds-put_line-start : goal.slice_bounds-put_line-start
slice_bounds-put_line-start c = omega arith

pub slice_bounds-put_line-end : goal.slice_bounds-put_line-end
slice_bounds-put_line-end c = omega (arith, row-there c)

pub put_line-end-requires : goal.put_line-end-requires
put_line-end-requires c =
    let i = (goal.at.put_line-end-requires c).In-loop-i in
    (omega (arith, (s i).requires.0), rw (part_length (l i).loop-i.start (s i).args.words (s i).args.plan.now (row-there i)) (omega (arith, line-room i)))

pub overflow_add-i : goal.overflow_add-i
overflow_add-i c = omega arith

pub loop-i-smaller : goal.loop-i-smaller
loop-i-smaller c = omega arith

pub loop-i-preserved : goal.loop-i-preserved
loop-i-preserved c =
    let p = c.before.before in
    let i = (goal.at.loop-i-preserved c).In-loop-i in
    let more = put_then (l i).loop-i.invariant.3 (put_as (ap (line_of (l i).loop-i.i) (row_is i)) refl p.put_line-end.ensures) in
    (omega arith, omega arith, omega arith, put_as (sym (lines_more (s i).args.words (s i).args.plan.now (l i).loop-i.i)) refl more)

pub shape_of-out : goal.shape_of-out
shape_of-out c = c.loop-i.invariant.2

pub returns : goal.returns
returns c =
    let t = c.before.before.before.before in
    let all : c.loop-i.i ≡ t.args.n = omega arith in
    put_as (ap (lines_to t.args.words t.args.plan.now) all) refl c.loop-i.invariant.3
