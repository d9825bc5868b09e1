-- `filter_strength` meets its contract: the table that the tests lead to. Assumes nothing.
use Rattle.strength.specs.Strength.{strength}
use Rattle.strength.proofs.filter_strength.Goals as goal

pub returns-then-smooth : goal.returns-then-smooth
unfolding strength
returns-then-smooth c = simp (c.if-filter.true, c.if-smooth.true) c.softer_strength.ensures

pub returns-else-smooth : goal.returns-else-smooth
unfolding strength
returns-else-smooth c = simp (c.if-filter.true, c.if-smooth.false) c.plain_strength.ensures

pub returns-else-filter : goal.returns-else-filter
unfolding strength
returns-else-filter c = simp c.if-filter.false
