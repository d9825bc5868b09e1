-- `to_sample` meets its contract: so small a number is exact in an f32. Assumes nothing.
use native.Mathlib.Omega.{arith}
use mathlib.Core.Path.{◌≡◌, ap}
use lib.IntN.{pos}
use mir.Syntax.{w32}
use mir.Val.{to_z}
use Rattle.lists.specs.Block.{sample}
use Rattle.signed.proofs.Bound.{back-pos, exact}
use Rattle.smooth_steps.proofs.to_sample.Goals as goal
use Rattle.smooth_steps.proofs.to_sample.Lts as lts
use Rattle.smooth_steps.proofs.to_sample.Reads as reads

abbrev At-Start : Type 0
At-Start = lts.Start reads.Pre reads.Post

-- the number, read back
same : (c : At-Start) → to_z w32 c.args.n ≡ pos c.args.n
same c = back-pos w32 c.args.n (omega arith)

pub int_to_float-result : goal.int_to_float-result
int_to_float-result c = rw (same c.before) (exact (pos c.args.n) (omega arith))

pub returns : goal.returns
returns c = ap sample (same c.before)
