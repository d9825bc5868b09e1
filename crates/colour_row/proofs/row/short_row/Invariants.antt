-- `short_row` meets its contract. The invariant: the first i samples are written. Assumes nothing.
use mathlib.Core.Path.{◌≡◌}
use Rattle.lists.specs.Fill.{filled}
use Rattle.colour_row.specs.Mixed.{mixed}
use Rattle.colour_row.specs.Runs.{at}
use Rattle.colour_row.proofs.row.short_row.Given as goal

abbrev pub invariant-loop-i : goal.invariant-loop-i
invariant-loop-i l = l.row ≡ filled l.i (λ x. mixed l.k (at l.near x) (at l.centre x)) l.initial.row
