-- `predict_block` meets its contract: a refusal returns before any store, and a call that is not refused meets what the block asks. Assumes nothing.
use mathlib.Core.Path.{sym}
use mir.Facts.{to_z-of_z}
use Rattle.refusals.proofs.Promise.{passes-on, comes-to}
use Rattle.colour_block.proofs.Accepted.{accepted}
use Rattle.colour_block.proofs.predict_block.Goals as goal

pub returns-in_err-refused : goal.returns-in_err-refused
returns-in_err-refused c = passes-on _ _ _ c.from_residual.ensures.1 c.in_err-refused.ensures

pub predict_into-requires : goal.predict_into-requires
predict_into-requires c = accepted _ _ _ (sym c.in_ok-refused.ensures)

pub returns : goal.returns
returns c = comes-to _ _ c.in_ok-refused.ensures (simp (to_z-of_z, c.ranges.p0, c.ranges.p1, c.ranges.p2) at c.predict_into.ensures)
