-- `to_sample` meets its contract: so small a number is exact in an f32. Assumes nothing.
use native.Mathlib.Omega.{arith}
use mathlib.Core.Path.{ap}
use mir.Syntax.{w32}
use Rattle.lists.specs.Block.{sample}
use Rattle.signed.proofs.Bound.{back-abs, exact}
use Rattle.directional.proofs.copies.to_sample.Goals as goal

pub int_to_float-result : goal.int_to_float-result
int_to_float-result c = rw (back-abs w32 c.args.v (omega arith)) (exact c.args.v (omega arith))

pub returns : goal.returns
returns c = ap sample (back-abs w32 c.args.v (omega arith))
