-- `smooth_sample` meets its contract: no step wraps, and what it gives is a sample. Assumes nothing.
use native.Mathlib.Omega.{arith}
use mathlib.Core.Path.{◌≡◌, ◌∙◌, ap}
use lib.IntN.{pos}
use Rattle.lists.specs.Block.{sample}
use Rattle.smooth_steps.specs.Parts.{part, weighed}
use Rattle.smooth_steps.proofs.Steps.{rest-most, step-asks, step_is, step-most, both_most}
use Rattle.smooth_steps.proofs.smooth_sample.Goals as goal

ramp-is : (c : goal.After-ramp) → c.ramp.result ≡ part c.args.m c.args.e c.args.t c.args.w
ramp-is c = c.ramp.ensures ∙ step_is c.requires.0 c.args.t

weigh-is : (c : goal.After-weigh)
    → c.weigh.result ≡ weighed c.args.m c.args.e c.args.t c.args.w c.args.v
weigh-is c = c.weigh.ensures ∙ ap (λ p. part 64 p c.args.t c.args.v) (ramp-is c.before)

pub overflow_mul-rest : goal.overflow_mul-rest
overflow_mul-rest c = omega (arith, rest-most c.requires.0)

pub overflow_add-rest : goal.overflow_add-rest
overflow_add-rest c = omega (arith, rest-most c.requires.0)

pub ramp-requires : goal.ramp-requires
ramp-requires c = step-asks c.requires.0 c.requires.1

pub weigh-requires : goal.weigh-requires
weigh-requires c = (omega (arith, ramp-is c, step-most c.requires.0 c.requires.1), c.requires.1, c.requires.2)

pub to_sample-requires : goal.to_sample-requires
to_sample-requires c =
    let s = c.before.before in
    omega (arith, weigh-is c, both_most s.requires.0 s.requires.1 s.args.v s.requires.2)

pub returns : goal.returns
returns c = c.to_sample.ensures ∙ ap (λ n. sample (pos n)) (weigh-is c.before)
