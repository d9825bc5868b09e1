-- `run_in_range` meets its contract. The invariant: ok tells of the entries so far. Assumes nothing.
use mathlib.Core.Path.{◌≡◌}
use lib.IntN.{pos}
use lib.ListN.{get_or}
use Rattle.signed.specs.Range.{inside}
use Rattle.edge_line.specs.Every.{every}
use Rattle.colour_rules.proofs.range.run_in_range.Given as goal

abbrev pub invariant-loop-x : goal.invariant-loop-x
invariant-loop-x l = l.ok ≡ every (λ x. inside l.m (get_or l.xs x (pos 0))) l.x-index
