-- `hits` meets its contract: the runs above, those at the left, the corner, the block. Assumes nothing.
use Rattle.clash.proofs.Runs.{hits-is}
use Rattle.clash.proofs.hits.hits.Goals as goal

pub returns : goal.returns
returns c =
    let a = c.args in
    hits-is _ _ a.s a.t c.square-a.ensures.0 c.square.ensures.0 _ _ _ _
    c.meets_above-above.ensures c.meets_left-left.ensures c.meets_corner-corner.ensures c.meet-block.ensures
