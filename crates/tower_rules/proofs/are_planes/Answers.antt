-- `are_planes` meets its contract. Assumes nothing.
use mathlib.Core.Bool.{◌&&◌}
use Rattle.tower_rules.specs.Rules.{are_planes}
use Rattle.tower_rules.proofs.are_planes.Goals as goal

pub returns : goal.returns
unfolding are_planes
returns c = λ j. c.is_plane-first.ensures j && c.is_plane-second.ensures j && c.is_plane-third.ensures j
