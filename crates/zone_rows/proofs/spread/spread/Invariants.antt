-- `spread` meets its contract. The invariant: the first j rows are written, and o is j w. Assumes nothing.
use Prim.Native.Nat.{ℕ, ◌≤◌, ◌+◌, ◌-◌, ◌*◌}
use mathlib.Core.Path.{◌≡◌}
use mathlib.Core.List.{List}
use lib.ListN.{length, get_or}
use lib.Ieee.{Float, nan}
use Rattle.lists.specs.Fill.{filled}
use Rattle.lists.specs.Block.{rows}
use Rattle.zone_rows.proofs.spread.spread.Given as goal

abbrev pub at : List Float → ℕ → ℕ → Float
at strip j c = get_or strip (c * 4 + j) nan

abbrev pub invariant-loop-j : goal.invariant-loop-j
invariant-loop-j l = (l.j ≤ 4) × (l.o ≡ l.j * l.w) × (length l.out ≡ length l.initial.out) × (l.out ≡ filled l.o (rows l.w (at l.strip)) l.initial.out)

abbrev pub decreases-loop-j : goal.decreases-loop-j
decreases-loop-j l = 4 - l.j
