-- `smooth` meets its contract: a refusal returns before any store, and a call that is not refused meets what the block asks. Assumes nothing.
use mathlib.Core.Bool.{true}
use mir.Facts.{to_z-of_z}
use Rattle.refusals.proofs.Promise.{passes-on, comes-to}
use Rattle.direct_calls.proofs.Passed.{passed}
use Rattle.smooth.proofs.Ready.{no-corner}
use Rattle.smooth.proofs.smooth.Goals as goal

pub returns-in_err-direct : goal.returns-in_err-direct
returns-in_err-direct c =
    let is = simp (to_z-of_z, c.ranges.corner) at c.in_err-direct.ensures in
    passes-on _ _ _ c.from_residual.ensures.1 is

pub smooth_into-requires : goal.smooth_into-requires
smooth_into-requires c =
    let is = simp (to_z-of_z, c.ranges.corner) at c.in_ok-direct.ensures in
    no-corner (passed _ true is)

pub returns : goal.returns
returns c =
    let is = simp (to_z-of_z, c.ranges.corner) at c.in_ok-direct.ensures in
    comes-to _ _ is c.smooth_into.ensures
