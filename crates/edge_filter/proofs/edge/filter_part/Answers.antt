-- `filter_part` meets its contract: the filtered places, and the others. Assumes nothing.
use native.Mathlib.Omega.{arith}
use Rattle.std.proofs.Common.{rules}
use Rattle.edge_filter.proofs.Parts.{rest-blur}
use Rattle.edge_filter.proofs.Pieces.{filter-places}
use Rattle.edge_filter.proofs.edge.filter_part.Goals as goal

pub blur_by-requires : goal.blur_by-requires
blur_by-requires c =
    let r = rest-blur c.args.n c.args.pad.now c.requires.5 3 c.min-top.result c.args.to.now (omega arith) in
    (c.requires.0, c.requires.1, r.0, r.1)

pub returns : goal.returns
returns c =
    let a = c.args in
    filter-places a.s a.lim a.n a.pad.now a.to.now c.min-top.result _ _
    c.requires.5 c.requires.0 c.requires.2 c.requires.4 c.min-top.ensures c.blur_by.ensures (search rules)
