-- `both_in_range` meets its contract. The invariant: ok tells of the first i entries of both lists. Assumes nothing.
use mathlib.Core.Path.{◌≡◌}
use mathlib.Core.Bool.{◌&&◌}
use Rattle.signed.specs.Range.{all_inside}
use Rattle.direct_calls.proofs.range.both_in_range.Given as goal

abbrev pub invariant-loop-i : goal.invariant-loop-i
invariant-loop-i l = l.ok ≡ (all_inside l.m l.xs l.i && all_inside l.m l.ys l.i)
