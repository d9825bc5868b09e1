-- `read_row` meets its contract. Assumes nothing.
use mathlib.Core.Path.{sym, ◌∙◌}
use Rattle.tower_job.proofs.rules.read_row.Goals as goal

pub read_colour-requires : goal.read_colour-requires
read_colour-requires c = (c.requires, sym c.is_colour.ensures ∙ c.if-is_colour.true)

pub read_base-requires : goal.read_base-requires
read_base-requires c = (c.requires, sym c.is_colour.ensures ∙ c.if-is_colour.false)
