-- `lists_long` meets its contract. Assumes nothing.
use borrow.Author.Tests.{le-leb, lt-leb}
use native.Mathlib.Omega.{arith}
use native.Mathlib.Nat.{mul-le-mul}
use Rattle.direct_calls.specs.Direct.{lists_long}
use Rattle.direct_calls.proofs.direct.lists_long.Goals as goal

pub returns-then-a-bs : goal.returns-then-a-bs
unfolding lists_long
returns-then-a-bs c = simp (lt-leb _ _ c.if-a-bs.true)

pub returns-then-l-bs : goal.returns-then-l-bs
unfolding lists_long
returns-then-l-bs c = simp (le-leb _ _ c.if-a-bs.false, lt-leb _ _ c.if-l-bs.true)

pub overflow_mul-result : goal.overflow_mul-result
overflow_mul-result c = omega (arith, mul-le-mul c.requires c.requires)

pub returns : goal.returns
unfolding lists_long
returns c = simp (le-leb _ _ c.if-a-bs.false, le-leb _ _ c.if-l-bs.false)
