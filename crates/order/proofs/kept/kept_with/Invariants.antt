-- `kept_with` meets its contract. Assumes nothing.
use mathlib.Core.Path.{◌≡◌}
use Prim.Native.Nat.{◌≤◌, ◌-◌}
use lib.ListN.{length}
use Rattle.order.proofs.Walk.{InWalk}
use Rattle.order.proofs.kept.kept_with.Given as goal

abbrev pub invariant-loop-k : goal.invariant-loop-k
invariant-loop-k l = (l.k ≤ length l.order) × (length l.blocks ≡ 4096) × (length l.hulls ≡ 4096) × InWalk l.width l.height l.n l.plan l.order l.k l.top l.blocks l.hulls

abbrev pub decreases-loop-k : goal.decreases-loop-k
decreases-loop-k l = length l.order - l.k
