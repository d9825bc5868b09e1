-- `whole` meets its contract. Assumes nothing.
use mathlib.Core.Path.{sym, subst}
use Prim.Native.Nat.{◌/◌, ◌^◌, ◌≤◌}
use native.Mathlib.Omega.{arith}
use lib.Dec.{T}
use lib.Ieee.{binary32, fits, to_bits}
use Rattle.samples.proofs.Digits as W
use Rattle.samples.proofs.whole.Goals as goal

-- what owning an `f32` tells: the format holds it
held : (c : goal.Start) → T (fits binary32 c.args.x)
held c = subst T (sym c.well_formed.0.1) tt

field : (c : goal.Start) → (126 ≤ to_bits binary32 c.args.x / 2 ^ 23) × (to_bits binary32 c.args.x / 2 ^ 23 ≤ 139)
field c = W.field c.args.x (held c) c.requires.0 c.requires.1

pub float_to_bits-bits : goal.float_to_bits-bits
float_to_bits-bits c = W.is_no_nan c.args.x (held c) c.requires.0 c.requires.1

pub overflow_sub-result : goal.overflow_sub-result
overflow_sub-result c = omega (arith, field c)

pub overflow_shr-result : goal.overflow_shr-result
overflow_shr-result c = omega (arith, field c)

pub returns : goal.returns
returns c = W.cut_down c.args.x (held c) c.requires.0 c.requires.1
