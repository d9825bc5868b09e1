-- `split_row` meets its contract: the columns before the split lead past the corner, and the others do not. Assumes nothing.
use native.Mathlib.Omega.{arith}
use Rattle.zones.proofs.split.split_row.Answers.Sides.{aside-only, both}
use Rattle.zones.proofs.split.split_row.Goals as goal
mod Sides

pub returns-then-k-w : goal.returns-then-k-w
returns-then-k-w c =
    both c.args.strip.now c.args.j c.args.t c.args.lum c.args.m c.args.top.now c.args.row.now c.split_of-k.result
    c.requires.j_bound.1 c.split_of-k.ensures c.requires.m_value.2 c.ranges.m _ _ c.spread_row.ensures (omega arith) c.between.ensures

pub returns-else-k-w : goal.returns-else-k-w
returns-else-k-w c =
    aside-only c.args.strip.now c.args.j c.args.t c.args.lum c.args.m c.args.top.now c.args.row.now c.split_of-k.result
    c.requires.j_bound.1 c.split_of-k.ensures c.requires.m_value.2 c.ranges.m _ c.spread_row.ensures (omega arith)
