-- `smooth_to` meets its contract: the two steps of `weighed`. Assumes nothing.
use native.Mathlib.Omega.{arith}
use mathlib.Core.Path.{◌≡◌, ◌∙◌, ap}
use lib.IntN.{nat_abs}
use mir.Facts.{to_z-of_z}
use Rattle.signed.proofs.Range.{inside-abs}
use Rattle.smooth_steps.specs.Parts.{part}
use Rattle.smooth_steps.proofs.Steps.{step-most}
use Rattle.smooth_steps.proofs.smooth_to.Goals as goal

pub ramp_to-requires : goal.ramp_to-requires
ramp_to-requires c = simp (to_z-of_z, c.ranges.x) (c.requires.0, c.requires.1, c.requires.2)

pub natural-requires : goal.natural-requires
natural-requires c = simp (to_z-of_z, c.ranges.x) c.requires.0

module _ (c : goal.After-natural) where
  abbrev s : goal.Start
  s = c.before.before

  top-is : c.natural.result ≡ nat_abs s.args.x
  top-is = c.natural.ensures ∙ ap nat_abs (to_z-of_z s.ranges.x)

  ramp-is : c.ramp_to.result ≡ part s.args.m s.args.e (nat_abs s.args.x) s.args.w
  ramp-is = c.ramp_to.ensures ∙ (λ j. part s.args.m s.args.e (nat_abs (to_z-of_z s.ranges.x j)) s.args.w)

pub weigh-requires : goal.weigh-requires
weigh-requires c =
    let x = inside-abs 4095 (s c).args.x (s c).requires.0 in
    (omega (arith, ramp-is c, step-most (s c).requires.1 x), omega (arith, top-is c), (s c).requires.3)

pub returns : goal.returns
returns c = c.weigh.ensures ∙ (λ j. part 64 (ramp-is c.before j) (top-is c.before j) (s c.before).args.v)
