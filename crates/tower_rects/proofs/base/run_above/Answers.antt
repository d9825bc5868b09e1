-- `run_above` meets its contract. Assumes nothing.
use borrow.Author.Tests.{not-true, not-false}
use Rattle.tower_rects.proofs.base.run_above.Goals as goal

pub returns-then-not-s : goal.returns-then-not-s
returns-then-not-s c =
    let s = c.args.s in
    rw (not-true s.have_above c.if-not-s.true) c.none.ensures

pub overflow_sub-y : goal.overflow_sub-y
overflow_sub-y c = c.requires.above (not-false c.args.s.have_above c.if-not-s.false)

pub returns : goal.returns
returns c = rw (not-false c.args.s.have_above c.if-not-s.false)
