-- `mean_of` meets its contract: the sum fits, and its half is the mean. Assumes nothing.
use mathlib.Core.Path.{refl}
use Rattle.smooth_steps.proofs.mean_of.Goals as goal

pub returns : goal.returns
returns c = refl
