-- `run_left` meets its contract. Assumes nothing.
use borrow.Author.Tests.{not-true, not-false}
use Rattle.tower_rects.proofs.base.run_left.Goals as goal

pub returns-then-not-s : goal.returns-then-not-s
returns-then-not-s c =
    let s = c.args.s in
    rw (not-true s.have_left c.if-not-s.true) c.none.ensures

pub overflow_sub-x : goal.overflow_sub-x
overflow_sub-x c = c.requires.left (not-false c.args.s.have_left c.if-not-s.false)

pub returns : goal.returns
returns c = rw (not-false c.args.s.have_left c.if-not-s.false)
