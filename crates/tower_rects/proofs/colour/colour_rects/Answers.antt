-- `colour_rects` meets its contract. Assumes nothing.
use mathlib.Core.List.{[], ◌∷◌}
use Rattle.tower_rects.proofs.colour.colour_rects.Goals as goal

pub returns : goal.returns
returns c =
    λ j.
    c.block.ensures j ∷ c.luma_window.ensures j ∷ c.counted_above.ensures j ∷ c.counted_beside.ensures j
    ∷ c.none.ensures j ∷ c.none-2.ensures j ∷ []
