-- `one_by_one` meets its contract: none of the rows after i up to j that touch row i clashes with it. Assumes nothing.
use mathlib.Core.Path.{◌≡◌}
use mathlib.Core.Bool.{false}
use Prim.Native.Nat.{ℕ, ◌<◌, ◌-◌}
use Rattle.job.specs.Row.{row_at}
use Rattle.touches.specs.Rects.{clash_of}
use Rattle.order.specs.Window.{Touch}
use Rattle.order.proofs.window.one_by_one.Given as goal

abbrev pub invariant-loop-j : goal.invariant-loop-j
invariant-loop-j l = (l.i < l.j) × ((m : ℕ) → l.i < m → m < l.j → Touch l.blocks l.hulls l.b l.h m → clash_of l.width l.height l.n (row_at l.plan l.i) (row_at l.plan m) ≡ false)

abbrev pub decreases-loop-j : goal.decreases-loop-j
decreases-loop-j l = l.top - l.j
