-- `left_columns` meets its contract: each column of the walk is written, and where the walk is left no row of the strip is still in its left part.
-- Assumes nothing.
use Prim.Native.Nat.{ℕ, ◌≤◌, ◌+◌, ◌*◌}
use mathlib.Core.Path.{◌≡◌}
use lib.ListN.{get_or}
use lib.IntN.{pos}
use Rattle.lists.specs.Block.{sample}
use Rattle.taps.specs.Interp.{between}
use Prim.Native.Nat.{ℕ, ◌≤◌, ◌<◌, ◌+◌, ◌-◌, ◌*◌}
use mathlib.Core.Path.{◌≡◌}
use mathlib.Core.Bool.{Bool}
use mathlib.Core.List.{List}
use lib.ListN.{length, get_or}
use lib.IntN.{ℤ, pos}
use lib.Ieee.{Float}
use Rattle.lists.specs.Fill.{filled}
use Rattle.lists.specs.Block.{rows, sample}
use Prim.Native.Nat.{◌≤◌, ◌+◌}
use Rattle.zones.proofs.walk.left_columns.Given as goal

abbrev pub at : Bool → ℤ → ℕ → ℕ → List ℤ → ℕ → ℕ → Float
at lum m dy r0 xs c j = sample (between lum m (λ k. get_or xs k (pos 0)) (64 * (r0 + 4) - (c + 1) * dy + 64 * j))

abbrev pub invariant-loop-y : goal.invariant-loop-y
invariant-loop-y l = l.y < l.end

abbrev pub decreases-loop-y : goal.decreases-loop-y
decreases-loop-y l = l.end - l.y

abbrev pub invariant-walk : goal.invariant-walk
invariant-walk l =
    (l.c ≤ l.w) × (l.o ≡ l.c * 4) × (l.q + l.c * l.dy ≡ 64 * (l.r0 + 4)) × (l.y < l.end) × (length l.strip ≡ length l.initial.strip) × (l.strip ≡ filled l.o (rows 4 (at l.lum l.m l.dy l.r0 l.left)) l.initial.strip) × (64 * l.c < (l.r0 + 4) * l.dx)

abbrev pub decreases-walk : goal.decreases-walk
decreases-walk l = l.w - l.c
