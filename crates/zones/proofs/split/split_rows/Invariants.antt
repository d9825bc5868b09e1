-- `split_rows` meets its contract. The invariant: the first j rows are written, o is j w and t is (r0 + j) dx. Assumes nothing.
use Prim.Native.Nat.{ℕ, ◌≤◌, ◌+◌, ◌-◌, ◌*◌}
use mathlib.Core.Path.{◌≡◌}
use mathlib.Core.Bool.{Bool, cond}
use mathlib.Core.List.{List}
use lib.Dec.{leb}
use lib.ListN.{length, get_or}
use lib.IntN.{ℤ}
use lib.Ieee.{Float, nan}
use Rattle.lists.specs.Fill.{filled}
use Rattle.lists.specs.Block.{rows, sample}
use Rattle.zone_rows.specs.Listed.{listed}
use Rattle.zones.proofs.split.split_rows.Given as goal

-- what stands in a row that is t back
abbrev pub row_of : List Float → Bool → ℤ → List ℤ → ℕ → ℕ → ℕ → Float
row_of strip lum m top j t c = cond (leb t (64 * (c + 1))) (sample (listed lum m top (64 * (c + 1) - t))) (get_or strip (c * 4 + j) nan)

abbrev pub at : List Float → Bool → ℤ → List ℤ → ℕ → ℕ → ℕ → ℕ → Float
at strip lum m top r0 dx j c = row_of strip lum m top j ((r0 + j + 1) * dx) c

abbrev pub invariant-loop-j : goal.invariant-loop-j
invariant-loop-j l =
    (l.j ≤ 4) × (l.o ≡ l.j * l.w) × (l.t ≡ (l.r0 + l.j) * l.dx) × (length l.out ≡ length l.initial.out) × (l.out ≡ filled l.o (rows l.w (at l.strip l.lum l.m l.top l.r0 l.dx)) l.initial.out)

abbrev pub decreases-loop-j : goal.decreases-loop-j
decreases-loop-j l = 4 - l.j
