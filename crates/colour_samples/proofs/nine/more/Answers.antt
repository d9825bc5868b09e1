-- `more` meets its contract: the product of two numbers of twelve digits fits 32. Assumes nothing.
use native.Mathlib.Nat.{mul-le-mul}
use native.Mathlib.Omega.{arith}
use Rattle.colour_samples.proofs.nine.more.Goals as goal

pub overflow_mul-result : goal.overflow_mul-result
overflow_mul-result c = omega (arith, mul-le-mul c.requires.1 c.requires.2)

pub overflow_cast-result : goal.overflow_cast-result
overflow_cast-result c = record { fits = omega (arith, mul-le-mul c.requires.1 c.requires.2) }

pub overflow_add-result : goal.overflow_add-result
overflow_add-result c = omega (arith, c.requires.0, mul-le-mul c.requires.1 c.requires.2)
