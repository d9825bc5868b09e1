-- `is_span` meets its contract. Assumes nothing.
use borrow.Author.Tests.{le-leb, lt-leb}
use Rattle.tower_job.specs.Tests.{is_span}
use Rattle.tower_job.proofs.tests.is_span.Goals as goal

pub returns-then-start-before : goal.returns-then-start-before
unfolding is_span
returns-then-start-before c = simp (lt-leb _ _ c.if-start-before.true)

pub returns : goal.returns
unfolding is_span
returns c = simp (le-leb _ _ c.if-start-before.false)
