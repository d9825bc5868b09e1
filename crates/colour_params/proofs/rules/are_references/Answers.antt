-- `are_references` meets its contract: sizes in range are what the tests of the lists ask for. Assumes nothing.
use mathlib.Core.Path.{sym, ◌∙◌}
use Rattle.colour_terms.proofs.Granted.{sizes-all}
use Rattle.colour_params.specs.Rules.{are_references}
use Rattle.colour_params.proofs.rules.are_references.Goals as goal

pub returns-then-not-is_sizes : goal.returns-then-not-is_sizes
unfolding are_references
returns-then-not-is_sizes c = simp (sym c.is_sizes.ensures ∙ c.if-not-is_sizes.true)

pub is_held-requires : goal.is_held-requires
is_held-requires c = (sizes-all _ _ (sym c.is_sizes.ensures ∙ c.if-not-is_sizes.false)).1

pub returns-then-not-is_held : goal.returns-then-not-is_held
unfolding are_references
returns-then-not-is_held c =
    simp (sym c.is_sizes.ensures ∙ c.if-not-is_sizes.false, sym c.is_held.ensures ∙ c.if-not-is_held.true)

pub is_held-requires-2 : goal.is_held-requires-2
is_held-requires-2 c = (sizes-all _ _ (sym c.is_sizes.ensures ∙ c.if-not-is_sizes.false)).1

pub returns : goal.returns
unfolding are_references
returns c =
    simp (sym c.is_sizes.ensures ∙ c.if-not-is_sizes.false, sym c.is_held.ensures ∙ c.if-not-is_held.false) c.is_held-2.ensures
