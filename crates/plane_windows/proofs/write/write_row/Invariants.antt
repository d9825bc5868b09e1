-- `write_row` meets its contract. The invariant: the first i samples are written. Assumes nothing.
use Prim.Native.Nat.{◌≤◌, ◌-◌}
use mathlib.Core.Path.{◌≡◌}
use lib.IntN.{pos}
use lib.ListN.{length, get_or}
use Rattle.lists.specs.Fill.{filled}
use Rattle.lists.specs.Block.{sample}
use Rattle.plane_windows.proofs.write.write_row.Given as goal

abbrev pub invariant-loop-i : goal.invariant-loop-i
invariant-loop-i l = (l.i ≤ length l.initial.row) × (length l.row ≡ length l.initial.row) × (l.row ≡ filled l.i (λ k. sample (get_or l.from k (pos 0))) l.initial.row)

abbrev pub decreases-loop-i : goal.decreases-loop-i
decreases-loop-i l = length l.initial.row - l.i
