-- `Reference::is_sizes` meets its contract. Assumes nothing.
use Rattle.std.proofs.Common.{rules}
use Rattle.colour_terms.specs.Reference.{is_sizes}
use Rattle.colour_terms.proofs.reference.Reference.is_sizes.Goals as goal

pub returns-then-self-le-MOST : goal.returns-then-self-le-MOST
unfolding is_sizes
returns-then-self-le-MOST c = search rules

pub returns-else-self-le-MOST : goal.returns-else-self-le-MOST
unfolding is_sizes
returns-else-self-le-MOST c = search rules
