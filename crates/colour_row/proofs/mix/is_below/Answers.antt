-- `is_below` meets its contract. Assumes nothing.
use borrow.Author.Tests.{lt-ltb, le-ltb}
use Rattle.colour_row.proofs.mix.is_below.Goals as goal

pub returns-then-m-limit0 : goal.returns-then-m-limit0
returns-then-m-limit0 c = simp (lt-ltb _ _ c.if-m-limit0.true)

pub returns-else-m-limit0 : goal.returns-else-m-limit0
returns-else-m-limit0 c = simp (le-ltb _ _ c.if-m-limit0.false)
