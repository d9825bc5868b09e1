-- `ramp` meets its contract: the remainders change nothing, and the sum fits. Assumes nothing.
use native.Mathlib.Nat.{mod-eq_of_lt, mul-le-mul}
use native.Mathlib.Omega.{arith}
use mathlib.Core.Path.{◌≡◌}
use Prim.Native.Nat.{◌*◌, ◌%◌, ◌≤◌}
use Rattle.smooth_steps.proofs.ramp.Goals as goal

module _ (c : goal.Start) where
  top : c.args.t % 4096 ≡ c.args.t
  top = mod-eq_of_lt (omega arith)

  parts : c.args.w % 128 ≡ c.args.w
  parts = mod-eq_of_lt (omega arith)

  product : c.args.t * c.args.w ≤ 4095 * 64
  product = mul-le-mul c.requires.0 c.requires.1

pub overflow_mul-result : goal.overflow_mul-result
overflow_mul-result c = rw (top c, parts c) (omega (arith, product c))

pub overflow_add-result : goal.overflow_add-result
overflow_add-result c = rw (top c, parts c) (omega (arith, product c))

pub returns : goal.returns
returns c = rw (top c, parts c)
