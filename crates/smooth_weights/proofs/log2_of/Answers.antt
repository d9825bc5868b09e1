-- `log2_of` meets its contract, whose definition counts the zeros as the code does. Assumes nothing.
use mathlib.Core.Path.{refl}
use Rattle.smooth_weights.specs.Weights.{log2}
use Rattle.smooth_weights.proofs.log2_of.Goals as goal

pub returns : goal.returns
unfolding log2
returns c = refl
