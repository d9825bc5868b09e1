-- `has_neighbours` meets its contract. Assumes nothing.
use mathlib.Core.Path.{sym, ◌∙◌}
use Rattle.block_spec.specs.Rules.{has_neighbours}
use Rattle.block_spec.proofs.rules.has_neighbours.Goals as goal

pub returns-then-not-is_reach : goal.returns-then-not-is_reach
unfolding has_neighbours
returns-then-not-is_reach c = simp (sym c.is_reach.ensures ∙ c.if-not-is_reach.true)

pub returns : goal.returns
unfolding has_neighbours
returns c =
    let a = c.is_reach in
    simp (sym a.ensures ∙ c.if-not-is_reach.false) c.is_reach-2.ensures
