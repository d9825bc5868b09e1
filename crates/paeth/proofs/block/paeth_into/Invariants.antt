-- `paeth_into` meets its contract. The invariant: the first r rows are written. Assumes nothing.
use Prim.Native.Nat.{ℕ, ◌*◌}
use mathlib.Core.Path.{◌≡◌}
use mathlib.Core.List.{List}
use lib.ListN.{length}
use lib.IntN.{ℤ}
use lib.Ieee.{Float}
use Rattle.lists.specs.Fill.{filled}
use Rattle.lists.specs.Block.{rows, sample}
use Rattle.paeth.specs.Paeth.{paeth_at}
use Rattle.paeth.proofs.block.paeth_into.Given as goal

abbrev pub at : ℕ → List ℤ → List ℤ → ℤ → ℕ → ℕ → Float
at bs above left k r c = sample (paeth_at bs above left k r c)

abbrev pub invariant-loop-r : goal.invariant-loop-r
invariant-loop-r l = (length l.out ≡ length l.initial.out) × (l.out ≡ filled (l.r * l.bs) (rows l.bs (at l.bs l.above l.left l.corner)) l.initial.out)
