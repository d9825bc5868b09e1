-- `copy_down` meets its contract. The invariant: the first r rows are written. Assumes nothing.
use Prim.Native.Nat.{ℕ, ◌*◌}
use mathlib.Core.Path.{◌≡◌}
use mathlib.Core.List.{List}
use lib.ListN.{length, get_or}
use lib.IntN.{ℤ, pos}
use lib.Ieee.{Float}
use Rattle.lists.specs.Fill.{filled}
use Rattle.lists.specs.Block.{rows, sample}
use Rattle.directional.proofs.copies.copy_down.Given as goal

abbrev pub at : List ℤ → ℕ → ℕ → Float
at above r c = sample (get_or above c (pos 0))

abbrev pub invariant-loop-r : goal.invariant-loop-r
invariant-loop-r l = (length l.out ≡ length l.initial.out) × (l.out ≡ filled (l.r * l.w) (rows l.w (at l.above)) l.initial.out)
