-- `repeat_from` meets its contract: a part, filled. Assumes nothing.
use native.Mathlib.Omega.{arith}
use mir.Facts.{to_z-of_z}
use Rattle.edge_line.proofs.Onward.{onward-part}
use Rattle.edge_line.proofs.edge.repeat_from.Goals as goal

pub returns : goal.returns
returns c =
    let a = c.args in
    onward-part a.from a.to a.v a.edge.now _ (omega arith) (omega arith) (rw (to_z-of_z c.ranges.v) at c.repeat.ensures)
