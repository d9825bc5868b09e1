-- `is_reach` meets its contract. Assumes nothing.
use borrow.Author.Tests.{le-leb}
use native.Mathlib.Omega.{arith}
use Rattle.block_spec.specs.Rules.{is_reach}
use Rattle.block_spec.proofs.rules.is_reach.Goals as goal

pub returns-then-not-there : goal.returns-then-not-there
unfolding is_reach
returns-then-not-there c = simp c.if-not-there.true

pub returns-then-across-eq0 : goal.returns-then-across-eq0
unfolding is_reach
returns-then-across-eq0 c = simp (c.if-not-there.false, c.if-across-eq0.true)

pub returns-then-available-eq0 : goal.returns-then-available-eq0
unfolding is_reach
returns-then-available-eq0 c =
    let s = c.before.before.before in
    simp (c.if-not-there.false, le-leb 1 s.args.across (omega arith), c.if-available-eq0.true)

pub returns : goal.returns
unfolding is_reach
returns c =
    let e = c.before.before in
    let s = e.before.before in
    simp (e.if-not-there.false, le-leb 1 s.args.across (omega arith), le-leb 1 s.args.available (omega arith), c.min.ensures)
