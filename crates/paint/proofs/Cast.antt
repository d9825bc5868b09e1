-- A predicted sample as an integer. Assumes nothing.
use mathlib.Core.Path.{◌≡◌, sym, subst}
use native.Mathlib.Omega.{arith}
use lib.Dec.{T}
use lib.IntN.{pos}
use lib.Ieee.{Float, binary32, to_signed, in_signed}
use lib.Ieee.Back.{positive_back}
use Rattle.signed.proofs.Bound.{exact}
use Rattle.paint.specs.Block.{Whole}

-- a whole number of some depth is cast to an integer and is itself
pub whole-cast : (v : Float) (w : Whole v) → T (in_signed binary32 31 v) × (to_signed 31 v ≡ pos w.number)
whole-cast v u =
    subst (λ x. T (in_signed binary32 31 x) × (to_signed 31 x ≡ pos u.number)) (sym u.is)
    (positive_back binary32 31 u.number (exact (pos u.number) (omega (arith, u.small))) (omega (arith, u.small)))
