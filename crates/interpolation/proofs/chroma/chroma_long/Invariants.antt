-- `chroma_long` meets its contract. The invariant: the first i samples are written. Assumes nothing.
use Prim.Native.Nat.{ℕ, ◌≤◌, ◌-◌}
use mathlib.Core.Path.{◌≡◌}
use mathlib.Core.List.{List}
use lib.ListN.{length, get_or}
use lib.IntN.{ℤ, pos}
use lib.Ieee.{Float}
use Rattle.lists.specs.Fill.{filled}
use Rattle.lists.specs.Block.{sample}
use Rattle.taps.specs.Interp.{chroma}
use Rattle.interpolation.proofs.chroma.chroma_long.Given as goal

-- the row's samples
abbrev pub row_of : List ℤ → ℤ → ℤ → ℤ → ℕ → Float
row_of list g f m i = sample (chroma m g f (λ k. get_or list k (pos 0)) i)

abbrev pub invariant-loop-i : goal.invariant-loop-i
invariant-loop-i l =
    (l.i ≤ length l.initial.row) × (length l.row ≡ length l.initial.row) × (l.row ≡ filled l.i (row_of l.list l.g l.f l.m) l.initial.row)

abbrev pub decreases-loop-i : goal.decreases-loop-i
decreases-loop-i l = length l.initial.row - l.i
