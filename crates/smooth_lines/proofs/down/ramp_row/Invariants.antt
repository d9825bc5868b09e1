-- `ramp_row` meets its contract. The invariant: the first c samples are written. Assumes nothing.
use Prim.Native.Nat.{ℕ, ◌≤◌, ◌-◌}
use mathlib.Core.Path.{◌≡◌}
use mathlib.Core.List.{List}
use lib.ListN.{length}
use lib.IntN.{ℤ, pos, nat_abs}
use lib.Ieee.{Float}
use Rattle.lists.specs.Fill.{filled}
use Rattle.lists.specs.Block.{sample}
use Rattle.smooth_steps.specs.Parts.{edge_at, part}
use Rattle.smooth_lines.proofs.down.ramp_row.Given as goal

-- the row's samples
abbrev pub row_of : List ℤ → ℕ → ℕ → ℕ → ℕ → Float
row_of above e w m i = sample (pos (part m e (nat_abs (edge_at above i)) w))

abbrev pub invariant-loop-c : goal.invariant-loop-c
invariant-loop-c l = (l.c ≤ length l.initial.row) × (length l.row ≡ length l.initial.row) × (l.row ≡ filled l.c (row_of l.above l.e l.w l.m) l.initial.row)

abbrev pub decreases-loop-c : goal.decreases-loop-c
decreases-loop-c l = length l.initial.row - l.c
