-- `area_in_range` meets its contract. The invariant: ok tells of the first j rows. Assumes nothing.
use Prim.Native.Nat.{ℕ, ◌+◌, ◌*◌}
use mathlib.Core.Path.{◌≡◌}
use mathlib.Core.Bool.{Bool}
use mathlib.Core.List.{List}
use lib.IntN.{ℤ, pos}
use lib.ListN.{get_or}
use Rattle.signed.specs.Range.{inside}
use Rattle.edge_line.specs.Every.{every}
use Rattle.colour_terms.specs.Terms.{stride}
use Rattle.colour_rules.proofs.range.area_in_range.Given as goal

-- the test of row j
abbrev pub row_in : ℤ → List ℤ → ℕ → ℕ → ℕ → Bool
row_in m luma s width j = every (λ i. inside m (get_or luma (s + j * stride + i) (pos 0))) width

abbrev pub invariant-loop-j : goal.invariant-loop-j
invariant-loop-j l = l.ok ≡ every (row_in l.m l.luma l.s l.width) l.j
