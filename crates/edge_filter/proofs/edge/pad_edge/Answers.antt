-- `pad_edge` meets its contract: the corner, the entries, the last of them. Assumes nothing.
use native.Mathlib.Omega.{arith}
use Rattle.std.proofs.Common.{rules}
use Prim.Native.Nat.{◌-◌}
use mir.Facts.{to_z-of_z}
use Rattle.signed.proofs.Entry.{entry_back}
use Rattle.edge_filter.proofs.Pieces.{pad-list}
use Rattle.edge_filter.proofs.edge.pad_edge.Goals as goal

pub returns : goal.returns
returns c =
    let a = c.args in
    let last = entry_back _ _ c.requires.edge.0 (a.n - 1) (omega arith) in
    pad-list a.n a.size a.corner a.edge.now a.list.now c.requires.n_nonzero.0 c.requires.n_nonzero.3 c.requires.n_nonzero.4
    _ _ _ _ _ (to_z-of_z c.ranges.corner) last c.requires.n_nonzero.2 c.repeat.ensures (search rules) c.repeat-2.ensures
