-- `low` meets its contract. Assumes nothing.
use native.Mathlib.Omega.{arith}
use mir.Syntax.{w32}
use mir.Val.{of_z}
use Rattle.signed.proofs.Naturals.{low-back, low-most}
use Rattle.colour_samples.proofs.sample.low.Goals as goal

pub overflow_cast-result : goal.overflow_cast-result
overflow_cast-result c = rw (low-back c.args.z) (tt, record { fits = omega (arith, low-most (of_z w32 c.args.z)) })

pub returns : goal.returns
returns c = (rw (low-back c.args.z), rw (low-back c.args.z) (low-most (of_z w32 c.args.z)))
