-- The line that a direction takes: none back is the line itself, and one back is the line before it, inside the block. No direction goes back more than
-- one. Assumes nothing.
use mathlib.Core.Path.{◌≡◌}
use mathlib.Core.Bool.{Bool}
use Prim.Native.Nat.{ℕ, suc, ◌+◌, ◌≤◌}
use native.Mathlib.Omega.{arith}
use borrow.Author.Tests.{le-ltb}
use Rattle.numbers.specs.Colour.{rows_up, columns_left}
use Rattle.numbers.specs.declared.colour.ColourDirection.{ColourDirection}
use Rattle.numbers.specs.declared.colour.ColourDirection.TheVariants.{Centre, Above, Left}
use Rattle.colour_rules.specs.Needed.{before}

pub stays : (there : Bool) (start k : ℕ) → before there start 0 k ≡ start + k
stays there start k = simp (le-ltb k 0 (omega arith)) (omega arith)

pub inner : (there : Bool) (start k : ℕ) → before there start 1 (suc k) ≡ start + k
inner there start k = simp (le-ltb (suc k) 1 (omega arith)) (omega arith)

pub rows-one : (c : ColourDirection) → rows_up c ≤ 1
rows-one Centre = omega arith
rows-one Above = omega arith
rows-one Left = omega arith

pub columns-one : (c : ColourDirection) → columns_left c ≤ 1
columns-one Centre = omega arith
columns-one Above = omega arith
columns-one Left = omega arith
