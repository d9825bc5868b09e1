-- `float_of` meets its contract: the pattern is no NaN's. Assumes nothing.
use mathlib.Core.Path.{◌≡◌, sym, subst}
use mathlib.Core.Bool.{Bool, false, not}
use lib.Dec.{T}
use lib.Ieee.{binary32, nan_bits}
use lib.Ieee.Bits.{nan_bits_above}
use borrow.Author.Tests.{le-ltb}
use Rattle.series.proofs.kind.float_of.Goals as goal

pub float_from_bits-result : goal.float_from_bits-result
float_from_bits-result c =
    let e : nan_bits binary32 c.args.bits ≡ false = rw (nan_bits_above binary32 c.args.bits) (le-ltb _ _ c.if-bits-le2139095040.true) in
    subst (λ (b : Bool). T (not b)) (sym e) tt
