-- `any_meets` meets its contract: the hit is that of the rows from `from` up to j. Assumes nothing.
use mathlib.Core.Path.{◌≡◌}
use Prim.Native.Nat.{◌-◌, ◌≤◌, max}
use Rattle.order.specs.Sides.{any_met}
use Rattle.order.proofs.bound_lists.any_meets.Given as goal

abbrev pub invariant-loop-j : goal.invariant-loop-j
invariant-loop-j l = (l.from ≤ l.j) × (l.j ≤ max l.from l.to) × (l.hit ≡ any_met l.lists l.s l.from (l.j - l.from))

abbrev pub decreases-loop-j : goal.decreases-loop-j
decreases-loop-j l = l.to - l.j
