-- `outputs_long` meets its contract. Assumes nothing.
use borrow.Author.Tests.{le-leb, lt-leb}
use Rattle.edges.specs.Rules.{outputs_long}
use Rattle.edges.proofs.answer.outputs_long.Goals as goal

pub returns-then-n-lt-REF_CAP : goal.returns-then-n-lt-REF_CAP
unfolding outputs_long
returns-then-n-lt-REF_CAP c = simp (lt-leb _ _ c.if-n-lt-REF_CAP.true)

pub returns-then-n-lt-REF_CAP-2 : goal.returns-then-n-lt-REF_CAP-2
unfolding outputs_long
returns-then-n-lt-REF_CAP-2 c = simp (le-leb _ _ c.if-n-lt-REF_CAP.false, lt-leb _ _ c.if-n-lt-REF_CAP-2.true)

pub returns : goal.returns
unfolding outputs_long
returns c = simp (le-leb _ _ c.if-n-lt-REF_CAP.false, le-leb _ _ c.if-n-lt-REF_CAP-2.false)
