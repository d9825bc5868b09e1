-- `z3_columns` meets its contract. The invariant: the first c columns are written, o is 4 c and q is from + c dy. Assumes nothing.
use Prim.Native.Nat.{ℕ, ◌≤◌, ◌+◌, ◌-◌, ◌*◌}
use mathlib.Core.Path.{◌≡◌}
use mathlib.Core.Bool.{Bool}
use mathlib.Core.List.{List}
use lib.ListN.{length, get_or}
use lib.IntN.{ℤ, pos}
use lib.Ieee.{Float}
use Rattle.lists.specs.Fill.{filled}
use Rattle.lists.specs.Block.{rows, sample}
use Rattle.taps.specs.Interp.{between}
use Rattle.zone_rows.proofs.z3.z3_columns.Given as goal

abbrev pub at : Bool → ℤ → ℕ → ℕ → List ℤ → ℕ → ℕ → Float
at lum m dy from xs c j = sample (between lum m (λ k. get_or xs k (pos 0)) (from + (c + 1) * dy + 64 * j))

abbrev pub invariant-loop-c : goal.invariant-loop-c
invariant-loop-c l =
    (l.c ≤ l.w) × (l.o ≡ l.c * 4) × (l.q ≡ l.from + l.c * l.dy) × (length l.strip ≡ length l.initial.strip) × (l.strip ≡ filled l.o (rows 4 (at l.lum l.m l.dy l.from l.list)) l.initial.strip)

abbrev pub decreases-loop-c : goal.decreases-loop-c
decreases-loop-c l = l.w - l.c
