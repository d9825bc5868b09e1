-- `strength_above` meets its contract: the distance is the definition's. Assumes nothing.
use mathlib.Core.Path.{◌∙◌, ap}
use Rattle.strength.specs.Strength.{strength}
use Rattle.setting.specs.Setting.{strength_above}
use Rattle.setting.proofs.Setting.strength_above.Goals as goal

pub returns : goal.returns
unfolding strength_above
returns c = c.filter_strength.ensures ∙ ap (strength _ _ _) c.distance.ensures
