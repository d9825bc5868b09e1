-- `beside_of` meets its contract. Assumes nothing.
use mathlib.Core.Path.{◌∙◌, ap}
use Rattle.numbers.specs.Colour.{columns_left}
use Rattle.colour_rules.specs.Area.{beside_of}
use Rattle.colour_rules.proofs.range.beside_of.Goals as goal

pub returns-then-b : goal.returns-then-b
unfolding beside_of
returns-then-b c = simp c.if-b.true (c.columns_left.ensures ∙ ap columns_left c.colour.ensures)

pub returns-else-b : goal.returns-else-b
unfolding beside_of
returns-else-b c = simp c.if-b.false
