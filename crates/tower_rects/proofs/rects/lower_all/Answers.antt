-- `lower_all` meets its contract. Assumes nothing.
use mathlib.Core.List.{[], ◌∷◌}
use native.Mathlib.Omega.{arith}
use Rattle.tower_rects.proofs.rects.lower_all.Goals as goal

pub lower-requires-6 : goal.lower-requires-6
lower-requires-6 c = (c.requires.1, omega (arith, c.requires.2.1.1.1.1.1.0))

pub returns : goal.returns
returns c =
    λ j.
    c.lower.ensures j ∷ c.lower-2.ensures j ∷ c.lower-3.ensures j ∷ c.lower-4.ensures j ∷ c.lower-5.ensures j
    ∷ c.lower-6.ensures j ∷ []
