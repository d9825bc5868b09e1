-- `entry_sample` meets its contract. Assumes nothing.
use native.Mathlib.Omega.{arith}
use mathlib.Core.Path.{◌≡◌, ◌∙◌, ap}
use Prim.Native.Nat.{◌≤◌}
use lib.IntN.{pos, nat_abs}
use mir.Facts.{to_z-of_z}
use Rattle.signed.proofs.Range.{inside-abs}
use Rattle.lists.specs.Block.{sample}
use Rattle.smooth_steps.specs.Parts.{weighed}
use Rattle.smooth_steps.proofs.entry_sample.Goals as goal

module _ (c : goal.After-natural) where
  is : c.natural.result ≡ nat_abs c.args.x
  is = simp (to_z-of_z, c.ranges.x) at c.natural.ensures

  small : c.natural.result ≤ 4095
  small = omega (arith, is, inside-abs 4095 c.args.x c.requires.1)

pub smooth_sample-requires : goal.smooth_sample-requires
smooth_sample-requires c = (c.requires.0, small c, c.requires.2)

pub returns : goal.returns
returns c =
    let a = c.args in
    c.smooth_sample.ensures ∙ ap (λ t. sample (pos (weighed a.m a.e t a.w a.v))) (is c.before)
