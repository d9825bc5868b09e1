-- `enter` meets its contract: the first m numbers of the row are entered. Assumes nothing.
use mathlib.Core.Path.{◌≡◌}
use Prim.Native.Nat.{◌-◌, ◌≤◌}
use lib.ListN.{length}
use Rattle.rect_order.specs.Columns.{Entered}
use Rattle.rect_order.proofs.columns.enter.Given as goal

abbrev pub invariant-loop-m : goal.invariant-loop-m
invariant-loop-m l = (l.m ≤ 24) × (length l.columns ≡ 24576) × Entered l.table l.initial.columns l.columns l.i l.m

abbrev pub decreases-loop-m : goal.decreases-loop-m
decreases-loop-m l = 24 - l.m
