-- `rounded` meets its contract. Assumes nothing.
use mathlib.Core.Path.{sym, ◌∙◌}
use native.Mathlib.Omega.{arith}
use mir.Syntax.{w32}
use Rattle.signed.proofs.Bound.{back}
use Rattle.fixed_product.proofs.Rounding.{rounded-zero, rounded-far}
use Rattle.fixed_product.proofs.product.rounded.Goals as goal

pub returns-in-0 : goal.returns-in-0
returns-in-0 c = back w32 c.ranges.p ∙ sym (rounded-zero c.args.p c.args.k c.in-0.is)

pub returns-in_default : goal.returns-in_default
returns-in_default c = sym (rounded-far c.args.p c.args.k (omega (arith, c.in_default)))
