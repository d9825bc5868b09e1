-- `has_line` meets its contract. Assumes nothing.
use Rattle.std.proofs.Common.{rules}
use Rattle.colour_rules.specs.Rules.{has_line}
use Rattle.colour_rules.proofs.place.has_line.Goals as goal

pub returns-then-not-there : goal.returns-then-not-there
unfolding has_line
returns-then-not-there c = search rules

pub returns-else-not-there : goal.returns-else-not-there
unfolding has_line
returns-else-not-there c = search rules
