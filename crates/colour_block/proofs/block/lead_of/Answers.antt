-- `lead_of` meets its contract. Assumes nothing.
use mathlib.Core.Path.{◌∙◌, ap}
use Rattle.numbers.specs.Colour.{columns_left}
use Rattle.colour_block.specs.Lines.{lead_of}
use Rattle.colour_block.proofs.block.lead_of.Goals as goal

pub returns-then-b : goal.returns-then-b
unfolding lead_of
returns-then-b c = simp c.if-b.true

pub returns-else-b : goal.returns-else-b
unfolding lead_of
returns-else-b c = simp c.if-b.false (c.columns_left.ensures ∙ ap columns_left c.colour.ensures)
