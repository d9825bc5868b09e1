-- `has_differences` meets its contract. Assumes nothing.
use Prim.Native.Nat.{◌≤◌}
use native.Mathlib.Nat.{mul-le-mul}
use native.Mathlib.Omega.{arith}
use Rattle.job.specs.Rules.{has_differences}
use Rattle.job.proofs.row.has_differences.Goals as goal

pub overflow_mul-result : goal.overflow_mul-result
overflow_mul-result c = let h : c.word-b.result ≤ 65535 = omega (arith, c.word-b.type_inv) in omega (arith, mul-le-mul h h)

pub overflow_add-result : goal.overflow_add-result
overflow_add-result c =
    let h : c.word-b.result ≤ 65535 = omega (arith, c.word-b.type_inv) in
    omega (arith, mul-le-mul h h, c.start_of.ensures.1)

pub returns : goal.returns
unfolding has_differences
returns c = rw (c.start_of.ensures.0, c.word-b.ensures)
