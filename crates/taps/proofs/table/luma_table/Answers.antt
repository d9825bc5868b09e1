-- `luma_table` meets its contract: the code's table is the definition's. Assumes nothing.
use mathlib.Core.Path.{refl}
use Rattle.lists.specs.Fill.{tab}
use Rattle.taps.proofs.table.luma_table.Goals as goal

pub returns : goal.returns
unfolding tab
returns c = refl
