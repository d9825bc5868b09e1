-- `directional` meets its contract: a refusal returns before any store, and a call that is not refused meets what the block asks. Assumes nothing.
use mathlib.Core.Path.{sym}
use mir.Facts.{to_z-of_z}
use Rattle.refusals.proofs.Promise.{passes-on, comes-to}
use Rattle.direct_calls.proofs.Accepted.{accepted}
use Rattle.direct_calls.proofs.Given.{given}
use Rattle.directional.proofs.directional.Goals as goal

pub returns-in_err-direct : goal.returns-in_err-direct
returns-in_err-direct c =
    let is = simp (to_z-of_z, c.ranges.corner, c.is_named-named.ensures) at c.in_err-direct.ensures in
    passes-on _ _ _ c.from_residual.ensures.1 is

pub directed_into-requires : goal.directed_into-requires
directed_into-requires c =
    let is = simp (to_z-of_z, c.ranges.corner, c.is_named-named.ensures) at c.in_ok-direct.ensures in
    let g = accepted _ _ _ _ _ _ _ (sym is) in
    simp (to_z-of_z, c.ranges.corner) (g.depth, g.mode, given g)

pub returns : goal.returns
returns c =
    let is = simp (to_z-of_z, c.ranges.corner, c.is_named-named.ensures) at c.in_ok-direct.ensures in
    let into = simp (to_z-of_z, c.ranges.corner) at c.directed_into.ensures in
    comes-to _ _ is into
