-- `step_of` meets its contract. Assumes nothing.
use native.Mathlib.Omega.{arith}
use Rattle.setting.proofs.Table.{step-most}
use Rattle.setting.proofs.steps.step_of.Goals as goal

pub overflow_cast-result : goal.overflow_cast-result
overflow_cast-result c = omega (arith, step-most c.args.angle c.requires)
