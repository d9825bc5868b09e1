-- `all_samples` meets its contract. The invariant: ok tells of the first j rows, and o is where row j starts. Assumes nothing.
use Prim.Native.Nat.{ℕ, ◌+◌, ◌-◌, ◌*◌, ◌≤◌}
use mathlib.Core.Path.{◌≡◌}
use mathlib.Core.Bool.{Bool}
use mathlib.Core.List.{List}
use lib.IntN.{ℤ}
use lib.Ieee.{Float, nan}
use lib.ListN.{get_or}
use Rattle.samples.specs.Sample.{is_sample}
use Rattle.edge_line.specs.Every.{every}
use Rattle.plane_windows.specs.Lies.{place_at}
use Rattle.plane_windows.proofs.range.all_samples.Given as goal

-- the test of row j
abbrev pub row_in : ℤ → List Float → ℕ → ℕ → ℕ → ℕ → ℕ → Bool
row_in m plane W x y w j = every (λ i. is_sample m (get_or plane (place_at W x y i j) nan)) w

abbrev pub invariant-loop-j : goal.invariant-loop-j
invariant-loop-j l = (l.j ≤ l.h) × (l.o ≡ (l.y + l.j) * l.width + l.x) × (l.ok ≡ every (row_in l.m l.plane l.width l.x l.y l.w) l.j)

abbrev pub decreases-loop-j : goal.decreases-loop-j
decreases-loop-j l = l.h - l.j
