-- `write_meets` meets its contract: none of the first k rectangles of a row of the window meets it. Assumes nothing.
use mathlib.Core.Path.{◌≡◌}
use mathlib.Core.Bool.{true}
use Prim.Native.Nat.{ℕ, ◌+◌, ◌*◌, ◌-◌, ◌≤◌, ◌<◌}
use Rattle.reorder.specs.Rect.{meet_b}
use Rattle.rect_order.specs.Columns.{span_of, rect_at}
use Rattle.rect_order.proofs.window.write_meets.Given as goal

abbrev pub invariant-loop-k : goal.invariant-loop-k
invariant-loop-k l = (l.k ≤ 6) × ((m j : ℕ) → m < l.k → l.from ≤ j → j < l.to → ¬ (meet_b (span_of l.w) (rect_at l.columns (4096 * m + j)) ≡ true))

abbrev pub decreases-loop-k : goal.decreases-loop-k
decreases-loop-k l = 6 - l.k
