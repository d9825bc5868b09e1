-- `z3_by` meets its contract: each strip is written, column by column, and spread into its rows. Assumes nothing.
use Prim.Native.Nat.{◌+◌, ◌*◌}
use mathlib.Core.Path.{◌≡◌}
use Rattle.lists.specs.Fill.{filled}
use Rattle.lists.specs.Block.{rows}
use Prim.Native.Nat.{ℕ, ◌≤◌, ◌+◌, ◌-◌, ◌*◌}
use mathlib.Core.Path.{◌≡◌}
use mathlib.Core.Bool.{Bool}
use mathlib.Core.List.{List}
use lib.ListN.{length}
use lib.IntN.{ℤ}
use lib.Ieee.{Float}
use Rattle.lists.specs.Block.{rows, sample}
use Rattle.zone_rows.specs.Listed.{ahead}
use Rattle.zone_rows.proofs.z3.z3_by.Given as goal

abbrev pub at : Bool → ℤ → ℕ → List ℤ → ℕ → ℕ → Float
at lum m dy xs r c = sample (ahead lum m dy xs c r)

abbrev pub invariant-loop-i : goal.invariant-loop-i
invariant-loop-i l =
    (l.i ≤ l.n) × (l.o ≡ 4 * l.i * l.w) × (l.from ≡ 256 * (l.i + 1)) × (length l.strip ≡ length l.initial.strip) × (length l.out ≡ length l.initial.out) × (l.out ≡ filled l.o (rows l.w (at l.lum l.m l.dy l.list)) l.initial.out)

abbrev pub decreases-loop-i : goal.decreases-loop-i
decreases-loop-i l = l.n - l.i
