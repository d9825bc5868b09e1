-- `digits` meets its contract. Assumes nothing.
use mathlib.Core.Path.{ap, ◌∙◌}
use Prim.Native.Nat.{ℕ, ◌+◌}
use native.Mathlib.Omega.{arith}
use mir.Syntax.{w32}
use Rattle.signed.proofs.Bound.{back}
use Rattle.fixed_product.specs.Product.{ilog2, digits}
use Rattle.fixed_product.proofs.Shift.{ilog2-le}
use Rattle.fixed_product.proofs.product.digits.Goals as goal

pub overflow_add-result : goal.overflow_add-result
overflow_add-result c = omega (arith, c.ilog2.ensures, ilog2-le c.unsigned_abs.result)

pub returns : goal.returns
unfolding digits
returns c =
    let m = c.unsigned_abs in
    let e = simp (back w32 c.ranges.a) at m.ensures.value in
    (ap (λ (n : ℕ). n + 1) (c.ilog2.ensures ∙ ap ilog2 e), omega (arith, c.ilog2.ensures, ilog2-le m.result))
