-- `is_lines` meets its contract. Assumes nothing.
use Rattle.std.proofs.Common.{rules}
use Rattle.colour_terms.specs.Reference.{is_lines}
use Rattle.colour_terms.proofs.reference.is_lines.Goals as goal

pub returns-then-above_lines-le-MOST : goal.returns-then-above_lines-le-MOST
unfolding is_lines
returns-then-above_lines-le-MOST c = search rules

pub returns-else-above_lines-le-MOST : goal.returns-else-above_lines-le-MOST
unfolding is_lines
returns-else-above_lines-le-MOST c = search rules
