-- `is_colour` meets its contract. Assumes nothing.
use mathlib.Core.Path.{ap}
use lib.Dec.{eqb}
use Rattle.tower_job.specs.Row.{is_colour_mode}
use Rattle.tower_job.proofs.row.is_colour.Goals as goal

pub returns : goal.returns
unfolding is_colour_mode
returns c = ap (λ m. eqb m 5) c.base_word.ensures
