-- `line` meets its contract: where no sample lacks its neighbour, one run gives the whole row. Assumes nothing.
use mathlib.Core.Path.{◌∙◌}
use lib.ListN.{length}
use Rattle.lists.proofs.Fill.{tab-same}
use Rattle.colour_block.proofs.Along.{all_runs, all_same}
use Rattle.colour_block.proofs.block.line.Goals as goal

pub row_at-requires : goal.row_at-requires
row_at-requires c =
    let t = c.before in
    let s = t.before in
    (s.requires.0, s.requires.1, all_runs _ _ _ _ _ _ s.requires.2 t.if-lead-eq0.true)

pub returns-then-lead-eq0 : goal.returns-then-lead-eq0
returns-then-lead-eq0 c =
    let t = c.before.before.before in
    let s = t.before in
    c.row_at.ensures ∙ tab-same (length s.args.row.now) _ _ (all_same _ _ _ _ _ _ s.requires.2 t.if-lead-eq0.true)
