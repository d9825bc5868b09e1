-- `smooth_v_rows` meets its contract. The invariant: the first r rows are written, and o is r bs. Assumes nothing.
use Prim.Native.Nat.{ℕ, ◌≤◌, ◌-◌, ◌*◌}
use mathlib.Core.Path.{◌≡◌}
use mathlib.Core.List.{List}
use lib.ListN.{length, get_or}
use lib.IntN.{ℤ, pos, nat_abs}
use lib.Ieee.{Float}
use Rattle.lists.specs.Fill.{filled}
use Rattle.lists.specs.Block.{rows, sample}
use Rattle.smooth_steps.specs.Parts.{edge_at, weighed}
use Rattle.smooth_rows.proofs.smooth_v_rows.Given as goal

abbrev pub at : ℕ → List ℤ → ℕ → List ℕ → ℕ → ℕ → Float
at bs above e weights r c = sample (pos (weighed bs e (nat_abs (edge_at above c)) (bs - 1 - r) (get_or weights r 0)))

abbrev pub invariant-loop-r : goal.invariant-loop-r
invariant-loop-r l =
    (l.r ≤ l.bs) × (l.o ≡ l.r * l.bs) × (length l.out ≡ length l.initial.out) × (l.out ≡ filled l.o (rows l.bs (at l.bs l.above l.e l.weights)) l.initial.out)

abbrev pub decreases-loop-r : goal.decreases-loop-r
decreases-loop-r l = l.bs - l.r
