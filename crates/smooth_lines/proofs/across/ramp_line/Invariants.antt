-- `ramp_line` meets its contract. The invariant: the first c numbers are written, and the numerator is that of column from + c. Assumes nothing.
use Prim.Native.Nat.{ℕ, ◌≤◌, ◌+◌, ◌-◌}
use mathlib.Core.Path.{◌≡◌}
use lib.ListN.{length}
use Rattle.lists.specs.Fill.{filled}
use Rattle.smooth_steps.specs.Parts.{part}
use Rattle.smooth_lines.proofs.Running.{run}
use Rattle.smooth_lines.proofs.across.ramp_line.Given as goal

-- the line's numbers
abbrev pub line_of : ℕ → ℕ → ℕ → ℕ → ℕ → ℕ
line_of l e m from i = part m e l (m - 1 - (from + i))

abbrev pub invariant-loop-c : goal.invariant-loop-c
invariant-loop-c l =
    (l.c ≤ length l.initial.line) × (length l.line ≡ length l.initial.line) × (l.line ≡ filled l.c (line_of l.l l.e l.m l.from) l.initial.line) × (l.number ≡ run l.l l.e l.m (l.from + l.c))

abbrev pub decreases-loop-c : goal.decreases-loop-c
decreases-loop-c l = length l.initial.line - l.c
