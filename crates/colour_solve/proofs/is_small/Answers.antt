-- `is_small` meets its contract. Assumes nothing.
use mathlib.Core.Path.{refl}
use Rattle.colour_solve.specs.Small.{is_small}
use Rattle.colour_solve.proofs.is_small.Goals as goal

pub returns : goal.returns
unfolding is_small
returns c = refl
