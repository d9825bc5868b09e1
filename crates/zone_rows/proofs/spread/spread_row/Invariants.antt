-- `spread_row` meets its contract. The invariant: the first c samples are written. Assumes nothing.
use Prim.Native.Nat.{ℕ, ◌≤◌, ◌+◌, ◌-◌, ◌*◌}
use mathlib.Core.Path.{◌≡◌}
use mathlib.Core.List.{List}
use lib.ListN.{length, get_or}
use lib.Ieee.{Float, nan}
use Rattle.lists.specs.Fill.{filled}
use Rattle.zone_rows.proofs.spread.spread_row.Given as goal

-- the row's samples
abbrev pub row_of : List Float → ℕ → ℕ → Float
row_of strip j c = get_or strip (c * 4 + j) nan

abbrev pub invariant-loop-c : goal.invariant-loop-c
invariant-loop-c l = (l.c ≤ length l.initial.row) × (length l.row ≡ length l.initial.row) × (l.row ≡ filled l.c (row_of l.strip l.j) l.initial.row)

abbrev pub decreases-loop-c : goal.decreases-loop-c
decreases-loop-c l = length l.initial.row - l.c
