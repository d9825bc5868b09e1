-- `limit_of` meets its contract. Assumes nothing.
use native.Mathlib.Omega.{arith}
use borrow.Author.Tests.{le-leb, lt-leb}
use Rattle.directional.specs.Words.{limit_of}
use Rattle.directional.proofs.turned.limit_of.Goals as goal

pub returns-then-word-gt0 : goal.returns-then-word-gt0
unfolding limit_of
returns-then-word-gt0 c = rw (le-leb 1 c.args.word (omega arith))

pub returns-else-word-gt0 : goal.returns-else-word-gt0
unfolding limit_of
returns-else-word-gt0 c = rw (lt-leb 1 c.args.word (omega arith))
