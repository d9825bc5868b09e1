-- `untouched` meets its contract. Assumes nothing.
use mathlib.Core.List.{[], ◌∷◌}
use Rattle.tower_rects.proofs.rects.untouched.Goals as goal

pub returns : goal.returns
returns c = let e = c.none-none.ensures in λ j. e j ∷ e j ∷ e j ∷ e j ∷ e j ∷ e j ∷ []
