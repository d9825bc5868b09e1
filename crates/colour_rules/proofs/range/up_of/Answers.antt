-- `up_of` meets its contract. Assumes nothing.
use mathlib.Core.Path.{◌∙◌, ap}
use Rattle.numbers.specs.Colour.{rows_up}
use Rattle.colour_rules.specs.Area.{up_of}
use Rattle.colour_rules.proofs.range.up_of.Goals as goal

pub returns-then-b : goal.returns-then-b
unfolding up_of
returns-then-b c = simp c.if-b.true (c.rows_up.ensures ∙ ap rows_up c.colour.ensures)

pub returns-else-b : goal.returns-else-b
unfolding up_of
returns-else-b c = simp c.if-b.false
