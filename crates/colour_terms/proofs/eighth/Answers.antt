-- `eighth` meets its contract. Assumes nothing.
use mir.Syntax.{w32}
use mir.Val.{SFits}
use lib.Signed.{shr_z, mag_shr}
use native.Mathlib.Nat.{lt_of_le_of_lt}
use Rattle.signed.proofs.Bound.{back}
use Rattle.colour_terms.proofs.eighth.Goals as goal

module _ (c : goal.Start) where
  fits : SFits w32 (shr_z c.args.v 8)
  fits = record { sfits = lt_of_le_of_lt (mag_shr c.args.v 8) c.ranges.v.sfits }

pub returns : goal.returns
returns c = simp (back w32 c.ranges.v, back w32 (fits c))
