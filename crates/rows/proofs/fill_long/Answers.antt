-- `fill_long` meets its contract. Assumes nothing.
use native.Mathlib.Omega.{arith}
use Rattle.lists.proofs.Loop.{filled-first, filled-step, filled-last}
use Rattle.rows.proofs.fill_long.Goals as goal

pub loop-i-init : goal.loop-i-init
loop-i-init g c = λ p h. filled-first p _

pub loop-i-preserved : goal.loop-i-preserved
loop-i-preserved g c = λ p h. filled-step c.loop-i.i p _ _ _ (c.loop-i.invariant p h) c.loop-i-test.true (h _ _ c.loop-i-test.true c.f.ensures)

pub returns : goal.returns
returns g c = λ p h. filled-last c.loop-i.i p _ _ (c.loop-i.invariant p h) (omega arith) (omega arith)
