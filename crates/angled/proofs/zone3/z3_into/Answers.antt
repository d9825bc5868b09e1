-- `z3_into` meets its contract: the lists and the strip have room. Assumes nothing.
use native.Mathlib.Omega.{arith}
use mir.Facts.{to_z-of_z}
use Rattle.angled.proofs.zone3.z3_into.Goals as goal

pub z3_with-requires : goal.z3_with-requires
z3_with-requires c =
    let s = c.before.before.before.before.before in
    simp (to_z-of_z, s.ranges.m, s.ranges.corner) record { fours = s.requires.fours; in_bounds = (omega arith, omega arith, omega arith, s.requires.edge.0, s.requires.edge.1, s.requires.edge.2) }

pub returns : goal.returns
returns c =
    let u = c.before.before.before.before.before in
    let s = u.before.before.before.before.before.before in
    simp (to_z-of_z, s.ranges.m, s.ranges.corner) at u.z3_with.ensures
