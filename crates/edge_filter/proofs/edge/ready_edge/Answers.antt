-- `ready_edge` meets its contract: the strength 0 filters nothing, and another reads the list that `pad_edge` left. Assumes nothing.
use native.Mathlib.Omega.{arith}
use mathlib.Core.Path.{sym, ◌∙◌}
use Prim.Native.Nat.{◌-◌, min}
use mir.Facts.{to_z-of_z}
use Rattle.lists.proofs.Fill.{filled-same}
use Rattle.edge_filter.specs.Filter.{edge}
use Rattle.edge_filter.proofs.Padded.{pad-ends, pad-place}
use Rattle.edge_filter.proofs.Filtered.{filtered-off, filtered-same}
use Rattle.edge_filter.proofs.edge.ready_edge.Goals as goal

pub filter_edge-requires : goal.filter_edge-requires
filter_edge-requires c =
    let one = rw (to_z-of_z c.ranges.corner) at c.pad_edge-else-s-eq0.ensures in
    let ends = pad-ends c.args.n c.args.corner c.args.edge.now c.args.size c.args.pad.now _ c.requires.n_nonzero.5 c.requires.n_nonzero.6 one c.requires.edge.0 c.requires.edge.1 in
    (omega arith, c.requires.n_nonzero.2, c.requires.n_nonzero.3, c.requires.n_nonzero.1, c.requires.n_nonzero.5, c.requires.n_nonzero.7, ends)

pub returns-then-s-eq0 : goal.returns-then-s-eq0
returns-then-s-eq0 c =
    let n = c.args.n in
    let e = edge c.args.corner c.args.edge.now in
    let one = rw (to_z-of_z c.ranges.corner) at c.pad_edge.ensures in
    one ∙ filled-same c.args.size _ _ c.args.list.now
    (λ i h. sym (filtered-off c.args.s c.args.lim n e (min n (i - 4)) c.if-s-eq0.true))

pub returns-else-s-eq0 : goal.returns-else-s-eq0
returns-else-s-eq0 c =
    let n = c.args.n in
    let k = c.args.corner in
    let es = c.args.edge.now in
    let one = rw (to_z-of_z c.ranges.corner) at c.pad_edge-else-s-eq0.ensures in
    let at = pad-place n k es c.args.size c.args.pad.now _ c.requires.n_nonzero.5 c.requires.n_nonzero.6 one in
    c.filter_edge.ensures
    ∙ filled-same c.args.size _ _ c.args.list.now
    (λ i h. filtered-same c.args.s c.args.lim n _ (edge k es) at (min n (i - 4)) (omega arith))
