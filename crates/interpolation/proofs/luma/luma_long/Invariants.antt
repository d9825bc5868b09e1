-- `luma_long` meets its contract. The invariant: the first i samples are written. Assumes nothing.
use Prim.Native.Nat.{ℕ, ◌≤◌, ◌-◌}
use mathlib.Core.Path.{◌≡◌}
use mathlib.Core.List.{List}
use lib.ListN.{length, get_or}
use lib.IntN.{ℤ, pos}
use lib.Ieee.{Float}
use Rattle.lists.specs.Fill.{filled}
use Rattle.lists.specs.Block.{sample}
use Rattle.taps.specs.Interp.{luma}
use Rattle.interpolation.proofs.luma.luma_long.Given as goal

-- the row's samples
abbrev pub row_of : List ℤ → ℤ → ℤ → ℤ → ℤ → ℤ → ℕ → Float
row_of list f0 f1 f2 f3 m i = sample (luma m f0 f1 f2 f3 (λ k. get_or list k (pos 0)) i)

abbrev pub invariant-loop-i : goal.invariant-loop-i
invariant-loop-i l =
    (l.i ≤ length l.initial.row) × (length l.row ≡ length l.initial.row) × (l.row ≡ filled l.i (row_of l.list l.f0 l.f1 l.f2 l.f3 l.m) l.initial.row)

abbrev pub decreases-loop-i : goal.decreases-loop-i
decreases-loop-i l = length l.initial.row - l.i
