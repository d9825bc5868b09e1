-- `is_across` meets its contract. Assumes nothing.
use native.Mathlib.Omega.{arith}
use borrow.Author.Tests.{eq-eqb, ne_eqb, lt-ltb, le-ltb}
use Rattle.directional.specs.Directional.{is_across}
use Rattle.directional.proofs.choice.is_across.Goals as goal

pub returns-then-set-eq180 : goal.returns-then-set-eq180
unfolding is_across
returns-then-set-eq180 c = rw (eq-eqb c.args.set.angle 180 (omega arith))

pub returns-then-set-lt180 : goal.returns-then-set-lt180
unfolding is_across
returns-then-set-lt180 c = rw (ne_eqb c.args.set.angle 180 (omega arith), le-ltb 180 c.args.set.angle (omega arith))

pub returns : goal.returns
unfolding is_across
returns c = rw (ne_eqb c.args.set.angle 180 (omega arith), lt-ltb 180 c.args.set.angle (omega arith))
