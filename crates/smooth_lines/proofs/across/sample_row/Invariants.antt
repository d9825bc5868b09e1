-- `sample_row` meets its contract. The invariant: the first c samples are written. Assumes nothing.
use Prim.Native.Nat.{ℕ, ◌≤◌, ◌-◌}
use mathlib.Core.Path.{◌≡◌}
use mathlib.Core.List.{List}
use lib.ListN.{length, get_or}
use lib.IntN.{pos}
use lib.Ieee.{Float}
use Rattle.lists.specs.Fill.{filled}
use Rattle.lists.specs.Block.{sample}
use Rattle.smooth_lines.proofs.across.sample_row.Given as goal

-- the row's samples
abbrev pub row_of : List ℕ → ℕ → Float
row_of line i = sample (pos (get_or line i 0))

abbrev pub invariant-loop-c : goal.invariant-loop-c
invariant-loop-c l = (l.c ≤ length l.initial.row) × (length l.row ≡ length l.initial.row) × (l.row ≡ filled l.c (row_of l.line) l.initial.row)

abbrev pub decreases-loop-c : goal.decreases-loop-c
decreases-loop-c l = length l.initial.row - l.c
