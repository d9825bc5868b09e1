-- `z2_by` meets its contract. The invariant: the first i strips are written, r0 is 4 i and o is 4 i w. Assumes nothing.
use Prim.Native.Nat.{ℕ, ◌≤◌, ◌-◌, ◌*◌}
use mathlib.Core.Path.{◌≡◌}
use mathlib.Core.Bool.{Bool}
use mathlib.Core.List.{List}
use lib.ListN.{length}
use lib.IntN.{ℤ}
use lib.Ieee.{Float}
use Rattle.lists.specs.Fill.{filled}
use Rattle.lists.specs.Block.{rows, sample}
use Rattle.zone_spec.specs.Either.{either}
use Rattle.zones.proofs.z2.z2_by.Given as goal

abbrev pub at : Bool → ℤ → ℕ → ℕ → List ℤ → List ℤ → ℕ → ℕ → Float
at lum m dx dy top left r c = sample (either lum m dx dy top left r c)

abbrev pub invariant-loop-i : goal.invariant-loop-i
invariant-loop-i l =
    (l.i ≤ l.n) × (l.r0 ≡ 4 * l.i) × (l.o ≡ 4 * l.i * l.w) × (length l.strip ≡ length l.initial.strip) × (length l.out ≡ length l.initial.out) × (l.out ≡ filled l.o (rows l.w (at l.lum l.m l.dx l.dy l.top l.left)) l.initial.out)

abbrev pub decreases-loop-i : goal.decreases-loop-i
decreases-loop-i l = l.n - l.i
