-- `write_block` meets its contract. The invariant: the first r rows are written, o is the place of row r, and k is r bs. Assumes nothing.
use Prim.Native.Nat.{◌+◌, ◌-◌, ◌*◌}
use mathlib.Core.Path.{◌≡◌}
use Rattle.paint.specs.Painted.{painted}
use Rattle.paint.proofs.RowByRow.{rows_of}
use Prim.Native.Nat.{ℕ, ◌+◌, ◌-◌, ◌*◌, ◌≤◌}
use mathlib.Core.Path.{◌≡◌}
use mathlib.Core.List.{List}
use lib.ListN.{length}
use lib.IntN.{ℤ}
use lib.Ieee.{Float}
use Rattle.paint.specs.Block.{added_at}
use Rattle.paint.proofs.RowByRow.{rows_of}
use Rattle.paint.proofs.write_block.Given as goal

-- the sample at row r and column c of the block
abbrev pub at : ℤ → List Float → List ℤ → ℕ → ℕ → ℕ → Float
at m block differences bs r c = added_at m block differences (r * bs + c)

abbrev pub invariant-loop-r : goal.invariant-loop-r
invariant-loop-r l =
    (l.r ≤ l.bs) × (l.o ≡ (l.y + l.r) * l.width + l.x) × (l.k ≡ l.r * l.bs) × (length l.plane ≡ length l.initial.plane)
    × (l.plane ≡ painted l.width (rows_of l.x l.y l.bs l.r) (at l.m l.block l.differences l.bs) l.initial.plane)

abbrev pub decreases-loop-r : goal.decreases-loop-r
decreases-loop-r l = l.bs - l.r
