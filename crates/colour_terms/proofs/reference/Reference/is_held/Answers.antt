-- `Reference::is_held` meets its contract. Assumes nothing.
use mathlib.Core.Path.{refl}
use Rattle.colour_terms.specs.Reference.{is_held}
use Rattle.colour_terms.proofs.reference.Reference.is_held.Goals as goal

pub returns : goal.returns
unfolding is_held
returns c = refl
