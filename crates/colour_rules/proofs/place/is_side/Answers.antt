-- `is_side` meets its contract. Assumes nothing.
use Rattle.std.proofs.Common.{rules}
use Rattle.colour_rules.specs.Rules.{is_side}
use Rattle.colour_rules.proofs.place.is_side.Goals as goal

pub returns-then-n-ge1 : goal.returns-then-n-ge1
unfolding is_side
returns-then-n-ge1 c = search rules

pub returns-else-n-ge1 : goal.returns-else-n-ge1
unfolding is_side
returns-else-n-ge1 c = search rules
