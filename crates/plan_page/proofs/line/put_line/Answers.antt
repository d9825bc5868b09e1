-- `put_line` meets its contract. The invariant: after the index stand the first j words, a space before each. Assumes nothing.
use mathlib.Core.Path.{refl, sym, ap}
use Prim.Native.Nat.{◌≤◌, ◌+◌, ◌*◌}
use native.Mathlib.Omega.{arith}
use lib.ListN.{take, length-take}
use lib.Seq.{take_all}
use Rattle.plan_page.specs.Page.{spaced, line_of}
use Rattle.plan_page.proofs.Texts.{put-none, put_then, put_as}
use Rattle.plan_page.proofs.Digits.{decimal-few}
use Rattle.plan_page.proofs.Lines.{spaced-none, spaced-more, spaced-few}
use Rattle.plan_page.proofs.line.put_line.Goals as goal
use Rattle.plan_page.proofs.line.put_line.Lts as lts
use Rattle.plan_page.proofs.line.put_line.Reads as reads
use Rattle.plan_page.proofs.line.put_line.Tie as tie

abbrev At-Start : Type 0
At-Start = lts.Start tie.the-claims reads.Pre reads.Post goal.the-invariant-loop-j goal.the-decreases-loop-j

abbrev At-loop-j : Type 0
At-loop-j = lts.At-loop tie.the-claims reads.Pre reads.Post goal.the-invariant-loop-j goal.the-decreases-loop-j

pub put_number-end-requires : goal.put_number-end-requires
put_number-end-requires c = (omega arith, omega arith)

pub loop-j-init : goal.loop-j-init
loop-j-init c = (omega arith, refl, put_as (sym spaced-none) refl (put-none _ _))

-- the words so far end early enough
module _ (c : At-loop-j) where
  abbrev s : At-Start
  s = c.before.before.before.before.before.before.before

  so_far : c.loop-j.end ≤ s.args.at + 5 + 6 * c.loop-j.j
  so_far =
      omega (
        arith,
        c.put_number-end.ensures.ends,
        decimal-few s.args.i,
        c.loop-j.invariant.2.ends,
        spaced-few (take c.loop-j.j s.args.row.now),
        length-take c.loop-j.j s.args.row.now,
      )

pub offset_bounds-row-j : goal.offset_bounds-row-j
offset_bounds-row-j c = omega arith

pub bounds-row-j : goal.bounds-row-j
bounds-row-j c = omega arith

pub put_word-end-requires : goal.put_word-end-requires
put_word-end-requires c = let l = c.before.before.before.before in omega (arith, so_far l, (s l).requires.1, l.out-1.given)

pub overflow_add-j : goal.overflow_add-j
overflow_add-j c = omega arith

pub loop-j-smaller : goal.loop-j-smaller
loop-j-smaller c = omega arith

pub loop-j-preserved : goal.loop-j-preserved
loop-j-preserved c =
    let w = c.before.before in
    let l = w.before.before.before.before.before in
    let row = (s l).args.row.now in (
      omega arith,
      omega arith,
      put_as (sym (spaced-more row l.loop-j.j (omega arith))) refl (put_then l.loop-j.invariant.2 w.put_word-end.ensures),
    )

pub put_byte-requires : goal.put_byte-requires
put_byte-requires c = let l = c.before.before.before in omega (arith, so_far l, (s l).requires.1)

pub returns : goal.returns
unfolding line_of
returns c =
    let b = c.before.before in
    let l = b.before.before.before.before in
    let n = l.before.before.before in
    let all = ap spaced (take_all l.loop-j.j (s l).args.row.now (omega arith)) in
    put_then n.put_number-end.ensures (put_then (put_as all refl l.loop-j.invariant.2) b.put_byte.ensures)
