-- `filter_edge` meets its contract: the corner, the places, the last of them. Assumes nothing.
use mir.Syntax.{w32}
use mir.Val.{to_z, of_z}
use Rattle.edge_filter.proofs.Pieces.{filter-list}
use Rattle.edge_filter.proofs.edge.filter_edge.Answers.Samples.{corner-back, f-back}
use Rattle.edge_filter.proofs.edge.filter_edge.Goals as goal
use Rattle.edge_filter.proofs.edge.filter_edge.Goals.{Start}
mod Samples

pub returns : goal.returns
returns c =
    let s = (goal.at.returns c).Start in
    filter-list c.args.s c.args.lim c.args.n c.args.pad.now c.args.list.now c.args.size _ (λ z. to_z w32 (of_z w32 z)) _ _ _
    c.requires.4 c.requires.5 (corner-back s) (f-back s) c.repeat.ensures c.filter_part.ensures c.repeat-2.ensures
