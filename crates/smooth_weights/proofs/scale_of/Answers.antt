-- `scale_of` meets its contract: half of log2 B - 1 is the scale at the five sizes. Assumes nothing.
use native.Mathlib.Omega.{arith}
use mathlib.Core.Path.{◌∙◌, ap}
use Prim.Native.Nat.{◌-◌, ◌/◌}
use Rattle.smooth_weights.proofs.Sizes.{sized}
use Rattle.smooth_weights.proofs.scale_of.Goals as goal

pub overflow_sub-result : goal.overflow_sub-result
overflow_sub-result c = omega (arith, c.log2_of-k.ensures, sized c.args.bs c.requires)

pub returns : goal.returns
returns c = ap (λ k. (k - 1) / 2) c.log2_of-k.ensures ∙ (sized c.args.bs c.requires).scaled
