-- `kept_with` meets its contract. Assumes nothing.
use mathlib.Core.Path.{◌≡◌}
use Prim.Native.Nat.{◌≤◌, ◌-◌}
use lib.ListN.{length}
use Rattle.rect_order.specs.Table.{Plain}
use Rattle.rect_order.proofs.Walk.{InWalk}
use Rattle.rect_order.proofs.kept.kept_with.Given as goal

abbrev pub invariant-loop-k : goal.invariant-loop-k
invariant-loop-k l = (l.k ≤ length l.order) × (length l.columns ≡ 24576) × Plain l.columns × InWalk l.table l.order l.columns l.k l.top

abbrev pub decreases-loop-k : goal.decreases-loop-k
decreases-loop-k l = length l.order - l.k
