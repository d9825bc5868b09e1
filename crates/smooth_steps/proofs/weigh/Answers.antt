-- `weigh` meets its contract: the remainders change nothing, and the sum fits. Assumes nothing.
use native.Mathlib.Nat.{mod-eq_of_lt, mul-le-mul, sub-le}
use native.Mathlib.Omega.{arith}
use mathlib.Core.Path.{◌≡◌}
use Prim.Native.Nat.{◌*◌, ◌-◌, ◌%◌, ◌≤◌}
use Rattle.smooth_steps.specs.Parts.{part}
use Rattle.smooth_steps.proofs.weigh.Goals as goal

module _ (c : goal.Start) where
  top : c.args.t % 4096 ≡ c.args.t
  top = mod-eq_of_lt (omega arith)

  end : c.args.p % 4096 ≡ c.args.p
  end = mod-eq_of_lt (omega arith)

  parts : c.args.v % 64 ≡ c.args.v
  parts = mod-eq_of_lt (omega arith)

  products : (c.args.t * c.args.v ≤ 4095 * 64) × (c.args.p * (64 - c.args.v) ≤ 4095 * 64)
  products =
      let few : c.args.v ≤ 64 = omega arith in
      (mul-le-mul c.requires.1 few, mul-le-mul c.requires.0 (sub-le 64 c.args.v))

pub overflow_mul-result : goal.overflow_mul-result
overflow_mul-result c = rw (top c, parts c) (omega (arith, products c))

pub overflow_mul-result-2 : goal.overflow_mul-result-2
overflow_mul-result-2 c = rw (end c, parts c) (omega (arith, products c))

pub overflow_add-result : goal.overflow_add-result
overflow_add-result c = rw (top c, end c, parts c) (omega (arith, products c))

pub overflow_add-result-2 : goal.overflow_add-result-2
overflow_add-result-2 c = rw (top c, end c, parts c) (omega (arith, products c))

pub returns : goal.returns
unfolding part
returns c = rw (top c, end c, parts c)
