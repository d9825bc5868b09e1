-- `reads_meet` meets its contract: of the rectangles read, none before the k-th meets what a row of the window writes. Assumes nothing.
use mathlib.Core.Path.{◌≡◌}
use mathlib.Core.Bool.{true}
use Prim.Native.Nat.{ℕ, ◌-◌, ◌≤◌, ◌<◌}
use Rattle.reorder.specs.Rect.{meet_b}
use Rattle.rect_order.specs.Table.{rect_in}
use Rattle.rect_order.specs.Columns.{rect_at}
use Rattle.rect_order.proofs.window.reads_meet.Given as goal

abbrev pub invariant-loop-k : goal.invariant-loop-k
invariant-loop-k l = (1 ≤ l.k) × (l.k ≤ 6)
    × ((m j : ℕ) → 1 ≤ m → m < l.k → l.from ≤ j → j < l.to → ¬ (meet_b (rect_in l.table l.i m) (rect_at l.columns j) ≡ true))

abbrev pub decreases-loop-k : goal.decreases-loop-k
decreases-loop-k l = 6 - l.k
