-- `setting_of` meets its contract: the angle and the limits are the definition's. Assumes nothing.
use mathlib.Core.Path.{◌∙◌, ap}
use lib.IntN.{nat_abs}
use mir.Facts.{to_z-of_z}
use Rattle.row_words.specs.Dir.{angle_of}
use Rattle.directional.proofs.turned.setting_of.Goals as goal

pub returns : goal.returns
returns c =
    let a = c.before.before in
    let s = a.before in
    let angle = ap nat_abs (a.turned.ensures ∙ ap (angle_of s.args.dir) (to_z-of_z s.ranges.delta)) in
    λ j. record { angle = angle j; flags = s.args.flags; max_width = c.limit_of.ensures j; max_height = c.limit_of-2.ensures j }
