-- `is_plan` meets its contract: the tests are the definition's. Assumes nothing.
use borrow.Author.Tests.{eq-eqb, ne_eqb, le-leb, lt-leb}
use Rattle.tower_rules.specs.Rules.{is_tower_plan}
use Rattle.tower_rules.proofs.is_plan.Goals as goal

pub returns-then-plan-ne0 : goal.returns-then-plan-ne0
unfolding is_tower_plan
returns-then-plan-ne0 c = simp (ne_eqb _ _ c.if-plan-ne0.true)

pub returns-then-n-gt-MOST : goal.returns-then-n-gt-MOST
unfolding is_tower_plan
returns-then-n-gt-MOST c = simp (eq-eqb _ _ c.if-plan-ne0.false, lt-leb _ _ c.if-n-gt-MOST.true)

pub returns-then-order-n : goal.returns-then-order-n
unfolding is_tower_plan
returns-then-order-n c = simp (eq-eqb _ _ c.if-plan-ne0.false, le-leb _ _ c.if-n-gt-MOST.false, ne_eqb _ _ c.if-order-n.true)

pub returns : goal.returns
unfolding is_tower_plan
returns c = simp (eq-eqb _ _ c.if-plan-ne0.false, le-leb _ _ c.if-n-gt-MOST.false, eq-eqb _ _ c.if-order-n.false)
