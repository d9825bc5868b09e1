-- `above_list` meets its contract: the strength and the limit are the definition's, and the strength is at most 3. Assumes nothing.
use native.Mathlib.Omega.{arith}
use mathlib.Core.Path.{◌∙◌}
use Prim.Native.Nat.{◌≤◌, ◌+◌}
use mir.Facts.{to_z-of_z}
use Rattle.lists.specs.Fill.{filled}
use Rattle.edge_filter.specs.Filter.{edge, padded, filtered}
use Rattle.setting.proofs.Most.{above_most}
use Rattle.angled.proofs.ready.above_list.Goals as goal

pub ready_edge-requires : goal.ready_edge-requires
ready_edge-requires c =
    let k = c.before.before.before in
    let s = k.before in
    let t : k.strength_above-s.result ≤ 3 = rw k.strength_above-s.ensures (above_most s.args.set (s.args.bs + s.args.bs)) in
    simp (to_z-of_z, s.ranges.corner) record { n_nonzero = (omega arith, s.requires.bs_nonzero.2, t, omega arith, s.requires.bs_nonzero.3, s.requires.bs_nonzero.4, s.requires.bs_nonzero.5, s.requires.bs_nonzero.6); edge = (s.requires.edge.0, s.requires.edge.1) }

pub returns : goal.returns
returns c =
    let e = c.before.before in
    let l = e.before.before.before in
    let s = l.before.before in
    e.ready_edge.ensures
    ∙ (λ j. filled s.args.size (padded 4 s.args.n (filtered (l.strength_above-s.ensures j) (l.limit_above-lim.ensures j) s.args.n (edge (to_z-of_z s.ranges.corner j) s.args.above.now))) s.args.list.now)
