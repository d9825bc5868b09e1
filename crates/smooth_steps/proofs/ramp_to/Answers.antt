-- `ramp_to` meets its contract: x is a natural number, and the step that of `part`. Assumes nothing.
use native.Mathlib.Omega.{arith}
use mathlib.Core.Path.{◌≡◌, ◌∙◌, ap}
use Prim.Native.Nat.{◌+◌, ◌*◌, ◌/◌, ◌^◌, ◌≤◌}
use lib.IntN.{nat_abs}
use mir.Facts.{to_z-of_z}
use Rattle.signed.proofs.Range.{inside-abs}
use Rattle.smooth_steps.specs.Parts.{part}
use Rattle.smooth_steps.proofs.Steps.{step-asks, step_is}
use Rattle.smooth_steps.proofs.ramp_to.Goals as goal

module _ (c : goal.After-natural) where
  top-is : c.natural.result ≡ nat_abs c.args.x
  top-is = c.natural.ensures ∙ ap nat_abs (to_z-of_z c.ranges.x)

  top-most : c.natural.result ≤ 4095
  top-most = omega (arith, top-is, inside-abs 4095 c.args.x c.requires.0)

pub ramp-requires : goal.ramp-requires
ramp-requires c = rw c.requires.2 (step-asks c.requires.1 (top-most c))

pub returns : goal.returns
returns c =
    let s = c.before.before in
    let t = c.natural.result in
    c.ramp.ensures
    ∙ (λ j. (t * s.args.w + s.requires.2 j) / 2 ^ s.args.k)
    ∙ step_is s.requires.1 t
    ∙ (λ j. part s.args.m s.args.e (top-is c.before j) s.args.w)
