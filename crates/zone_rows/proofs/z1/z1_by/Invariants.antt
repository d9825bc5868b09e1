-- `z1_by` meets its contract. The invariant: the first r rows are written, o is r w and q is 256 + r dx. Assumes nothing.
use Prim.Native.Nat.{ℕ, ◌≤◌, ◌+◌, ◌-◌, ◌*◌}
use mathlib.Core.Path.{◌≡◌}
use mathlib.Core.Bool.{Bool}
use mathlib.Core.List.{List}
use lib.ListN.{length}
use lib.IntN.{ℤ}
use lib.Ieee.{Float}
use Rattle.lists.specs.Fill.{filled}
use Rattle.lists.specs.Block.{rows, sample}
use Rattle.zone_rows.specs.Listed.{ahead}
use Rattle.zone_rows.proofs.z1.z1_by.Given as goal

abbrev pub at : Bool → ℤ → ℕ → List ℤ → ℕ → ℕ → Float
at lum m dx xs r c = sample (ahead lum m dx xs r c)

abbrev pub invariant-loop-r : goal.invariant-loop-r
invariant-loop-r l =
    (l.r ≤ l.h) × (l.o ≡ l.r * l.w) × (l.q ≡ 256 + l.r * l.dx) × (length l.out ≡ length l.initial.out) × (l.out ≡ filled l.o (rows l.w (at l.lum l.m l.dx l.list)) l.initial.out)

abbrev pub decreases-loop-r : goal.decreases-loop-r
decreases-loop-r l = l.h - l.r
