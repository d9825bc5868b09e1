-- `is_down` meets its contract. Assumes nothing.
use native.Mathlib.Omega.{arith}
use borrow.Author.Tests.{eq-eqb, ne_eqb, lt-ltb, le-ltb}
use Rattle.directional.specs.Directional.{is_down}
use Rattle.directional.proofs.choice.is_down.Goals as goal

pub returns-then-set-eq90 : goal.returns-then-set-eq90
unfolding is_down
returns-then-set-eq90 c = rw (eq-eqb c.args.set.angle 90 (omega arith))

pub returns-then-set-gt90 : goal.returns-then-set-gt90
unfolding is_down
returns-then-set-gt90 c = rw (ne_eqb c.args.set.angle 90 (omega arith), le-ltb c.args.set.angle 90 (omega arith))

pub returns : goal.returns
unfolding is_down
returns c = rw (ne_eqb c.args.set.angle 90 (omega arith), lt-ltb c.args.set.angle 90 (omega arith))
