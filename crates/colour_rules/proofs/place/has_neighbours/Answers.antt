-- `has_neighbours` meets its contract. Assumes nothing.
use Rattle.std.proofs.Common.{rules}
use Rattle.colour_rules.specs.Rules.{has_lines}
use Rattle.colour_rules.proofs.place.has_neighbours.Goals as goal

pub returns-then-has_line : goal.returns-then-has_line
unfolding has_lines
returns-then-has_line c = search rules

pub returns-else-has_line : goal.returns-else-has_line
unfolding has_lines
returns-else-has_line c = search rules
