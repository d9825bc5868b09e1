-- The words that a neighbour is made of: places before a block's first, and numbers next to the base. Assumes nothing.
use mathlib.Core.Path.{◌≡◌, sym, ◌∙◌, ap, subst}
use Prim.Native.Nat.{ℕ, ◌+◌, ◌-◌, ◌*◌, ◌^◌, ◌≤◌, ◌<◌}
use native.Mathlib.Nat.{mul-le-mul}
use native.Mathlib.Omega.{arith}
use lib.IntN.{pos, ◌+ℤ◌, ◌-ℤ◌}
use mir.Syntax.{w32}
use mir.Val.{SFits, to_z, of_z}
use Rattle.signed.proofs.Parts.{sfits, sub}
use Rattle.signed.proofs.Bound.{back}

-- the row above the block's first sample
pub up_fits : (W y x r : ℕ) → r ≡ y - 1 → y * W + x ≤ 16777216 → r * W + x ≤ 16777216
up_fits W y x r e h = let l : r ≤ y = omega arith in let w : W ≤ W = omega arith in omega (arith, mul-le-mul l w)

-- a 16-bit word as a 32-bit one
word_fits : (b : ℕ) → b < 2 ^ 16 → SFits w32 (pos b)
word_fits b h = record { sfits = omega arith }

pub word-is : (b : ℕ) → b < 2 ^ 16 → to_z w32 b ≡ pos b
word-is b h = back w32 {z = pos b} (word_fits b h)

less-fits : (b : ℕ) → b < 2 ^ 16 → SFits w32 (pos b -ℤ pos 1)
less-fits b h = let d = sub (pos b) (pos 1) in sfits w32 _ (omega (arith, d)) (omega (arith, d))

pub one_less_fits : (b : ℕ) → b < 2 ^ 16 → SFits w32 (to_z w32 b -ℤ pos 1)
one_less_fits b h = subst (λ z. SFits w32 (z -ℤ pos 1)) (sym (word-is b h)) (less-fits b h)

pub one-less-is : (b : ℕ) → b < 2 ^ 16 → to_z w32 (of_z w32 (to_z w32 b -ℤ pos 1)) ≡ pos b -ℤ pos 1
one-less-is b h = ap (λ z. to_z w32 (of_z w32 (z -ℤ pos 1))) (word-is b h) ∙ back w32 (less-fits b h)

more-fits : (b : ℕ) → b < 2 ^ 16 → SFits w32 (pos b +ℤ pos 1)
more-fits b h = record { sfits = omega arith }

pub one-more-fits : (b : ℕ) → b < 2 ^ 16 → SFits w32 (to_z w32 b +ℤ pos 1)
one-more-fits b h = subst (λ z. SFits w32 (z +ℤ pos 1)) (sym (word-is b h)) (more-fits b h)

pub one-more-is : (b : ℕ) → b < 2 ^ 16 → to_z w32 (of_z w32 (to_z w32 b +ℤ pos 1)) ≡ pos b +ℤ pos 1
one-more-is b h = ap (λ z. to_z w32 (of_z w32 (z +ℤ pos 1))) (word-is b h) ∙ back w32 (more-fits b h)
