-- `write_patch` meets its contract. The invariant: the first r rows are written, o is the place of row r, and k is r w. Assumes nothing.
use Prim.Native.Nat.{◌-◌}
use mathlib.Core.Path.{◌≡◌}
use Rattle.paint.specs.Painted.{painted}
use Rattle.paint.proofs.RowByRow.{rows_of}
use Prim.Native.Nat.{ℕ, ◌+◌, ◌-◌, ◌*◌, ◌≤◌}
use mathlib.Core.Path.{◌≡◌}
use mathlib.Core.List.{List}
use lib.IntN.{ℤ, pos}
use lib.Ieee.{Float}
use lib.ListN.{length, get_or}
use Rattle.lists.specs.Block.{sample}
use Rattle.paint.proofs.RowByRow.{rows_of}
use Prim.Native.Nat.{◌+◌, ◌-◌, ◌*◌}
use mathlib.Core.Path.{◌≡◌}
use lib.IntN.{pos}
use Rattle.plane_windows.proofs.write.write_patch.Given as goal

-- the sample at row r and column c of the block
abbrev pub at : List ℤ → ℕ → ℕ → ℕ → Float
at from w r c = sample (get_or from (r * w + c) (pos 0))

abbrev pub invariant-loop-r : goal.invariant-loop-r
invariant-loop-r l =
    (l.r ≤ l.h) × (l.o ≡ (l.y + l.r) * l.width + l.x) × (l.k ≡ l.r * l.w) × (length l.plane ≡ length l.initial.plane) × (l.plane ≡ painted l.width (rows_of l.x l.y l.w l.r) (at l.from l.w) l.initial.plane)

abbrev pub decreases-loop-r : goal.decreases-loop-r
decreases-loop-r l = l.h - l.r
