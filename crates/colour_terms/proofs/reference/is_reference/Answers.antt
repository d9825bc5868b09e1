-- `is_reference` meets its contract: sizes in range are what the test of the list asks for. Assumes nothing.
use Rattle.std.proofs.Common.{rules}
use mathlib.Core.Path.{sym, ◌∙◌}
use Rattle.colour_terms.specs.Reference.{is_reference}
use Rattle.colour_terms.proofs.Granted.{sizes-all}
use Rattle.colour_terms.proofs.reference.is_reference.Goals as goal

pub is_held-requires : goal.is_held-requires
is_held-requires c = (sizes-all _ _ (sym c.is_sizes.ensures ∙ c.if-is_sizes.true)).1

pub returns-then-is_sizes : goal.returns-then-is_sizes
unfolding is_reference
returns-then-is_sizes c = search rules

pub returns-else-is_sizes : goal.returns-else-is_sizes
unfolding is_reference
returns-else-is_sizes c = search rules
