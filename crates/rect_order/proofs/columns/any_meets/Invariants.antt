-- `any_meets` meets its contract: the hit is that of the places from `from` up to p. Assumes nothing.
use mathlib.Core.Path.{◌≡◌}
use mathlib.Core.Bool.{true}
use Prim.Native.Nat.{◌-◌, ◌≤◌, max}
use Rattle.reorder.specs.Rect.{meet_b}
use Rattle.rect_order.specs.Columns.{span_of, rect_at, Tells}
use Rattle.rect_order.proofs.columns.any_meets.Given as goal

abbrev pub invariant-loop-p : goal.invariant-loop-p
invariant-loop-p l = (l.from ≤ l.p) × (l.p ≤ max l.from l.to) × Tells (λ q. meet_b (span_of l.s) (rect_at l.columns q) ≡ true) l.from l.p l.hit

abbrev pub decreases-loop-p : goal.decreases-loop-p
decreases-loop-p l = l.to - l.p
