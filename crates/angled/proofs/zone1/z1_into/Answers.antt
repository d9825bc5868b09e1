-- `z1_into` meets its contract: the lists have room. Assumes nothing.
use native.Mathlib.Omega.{arith}
use mir.Facts.{to_z-of_z}
use Rattle.angled.proofs.zone1.z1_into.Goals as goal

pub z1_with-requires : goal.z1_with-requires
z1_with-requires c =
    let s = c.before.before.before.before in
    simp (to_z-of_z, s.ranges.m, s.ranges.corner) record { fours = s.requires.fours; in_bounds = (omega arith, omega arith, s.requires.edge.0, s.requires.edge.1, s.requires.edge.2) }

pub returns : goal.returns
returns c =
    let u = c.before.before.before.before in
    let s = u.before.before.before.before.before in
    simp (to_z-of_z, s.ranges.m, s.ranges.corner) at u.z1_with.ensures
