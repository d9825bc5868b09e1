-- `row_at` meets its contract: the parts that it lends are the runs. Assumes nothing.
use mathlib.Core.Path.{◌∙◌}
use lib.ListN.{length}
use Rattle.lists.proofs.Fill.{tab-same}
use Rattle.colour_row.proofs.Runs.{runs_of, runs_same}
use Rattle.colour_row.proofs.row.row_at.Goals as goal

pub either_row-requires : goal.either_row-requires
either_row-requires c = let s = c.before.before.before in (s.requires.0, s.requires.1, runs_of _ _ _ _ _ s.requires.2)

pub returns : goal.returns
returns c =
    let s = c.before.before.before.before.before in
    c.either_row.ensures ∙ tab-same (length s.args.row.now) _ _ (runs_same _ _ _ _ _ s.requires.2)
