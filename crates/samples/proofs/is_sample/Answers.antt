-- `is_sample` meets its contract: 0.0 is the zero of the definition, and m is an f32. Assumes nothing.
use mathlib.Core.Path.{◌≡◌, refl}
use mathlib.Core.Bool.{◌&&◌}
use native.Mathlib.Omega.{arith}
use lib.Ieee.{binary32, of_bits, le, of_int}
use mir.Syntax.{w32}
use Rattle.signed.proofs.Bound.{back, exact}
use Rattle.signed.proofs.Range.{inside-abs}
use Rattle.samples.specs.Sample.{zero, is_sample}
use Rattle.samples.proofs.is_sample.Goals as goal

zero_is : of_bits binary32 0 ≡ zero
unfolding of_bits
zero_is = refl

pub int_to_float-high : goal.int_to_float-high
int_to_float-high c =
    let s = c.before in
    rw (back w32 s.ranges.m) (exact s.args.m (omega (arith, inside-abs 4095 s.args.m s.requires)))

pub returns : goal.returns
unfolding is_sample
returns c =
    let s = c.before in
    λ j. le (zero_is j) s.args.v && le s.args.v (of_int binary32 (back w32 s.ranges.m j))
