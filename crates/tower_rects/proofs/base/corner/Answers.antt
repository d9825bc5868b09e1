-- `corner` meets its contract. Assumes nothing.
use borrow.Author.Tests.{not-true, not-false}
use Rattle.tower_rects.proofs.base.corner.Goals as goal

pub returns-then-not-s : goal.returns-then-not-s
returns-then-not-s c =
    let s = c.args.s in
    rw (not-true s.have_above c.if-not-s.true) c.none.ensures

pub returns-then-not-s-2 : goal.returns-then-not-s-2
returns-then-not-s-2 c =
    let s = c.args.s in
    rw (not-false s.have_above c.if-not-s.false, not-true s.have_left c.if-not-s-2.true) c.none-then-not-s-2.ensures

pub overflow_sub-x : goal.overflow_sub-x
overflow_sub-x c = c.requires.left (not-false c.args.s.have_left c.if-not-s-2.false)

pub overflow_sub-y : goal.overflow_sub-y
overflow_sub-y c =
    c.requires.above (not-false c.args.s.have_above c.if-not-s.false)

pub returns : goal.returns
returns c =
    let s = c.args.s in
    rw (not-false s.have_above c.if-not-s.false, not-false s.have_left c.if-not-s-2.false)
