-- `read_sample` meets its contract: the sum is at least 0.5 and below 2 ^ 13, and its whole part small. Assumes nothing.
use mathlib.Core.Path.{◌≡◌, refl, sym, subst, ap, ◌∙◌}
use Prim.Native.Nat.{◌≤◌}
use native.Mathlib.Omega.{arith}
use lib.Dec.{T}
use lib.IntN.{pos}
use lib.Ieee.{Float, binary32, of_bits, add, le, lt, to_unsigned}
use mir.Syntax.{w32}
use Rattle.signed.proofs.Bound.{back-pos}
use Rattle.samples.specs.Sample.{half, bound, reading}
use Rattle.samples.proofs.Reading.{sum-within, reading_small}
use Rattle.samples.proofs.read_sample.Goals as goal

-- 0.5 by its bit pattern
half_is : of_bits binary32 0x3f00_0000 ≡ half
unfolding of_bits
half_is = refl

-- what `whole` gave
module _ (c : goal.After-whole) where
  is : c.whole.result ≡ reading c.args.v
  unfolding reading
  is = c.whole.ensures ∙ ap (λ (h : Float). to_unsigned 32 (add binary32 c.args.v h)) half_is

  small : c.whole.result ≤ 4095
  small = omega (arith, is, reading_small c.args.v c.requires)

pub whole-requires : goal.whole-requires
whole-requires c =
    subst (λ (h : Float). T (le half (add binary32 c.args.v h)) × T (lt (add binary32 c.args.v h) bound)) (sym half_is) (sum-within c.args.v c.requires)

pub overflow_cast-result : goal.overflow_cast-result
overflow_cast-result c = record { sfits = omega (arith, small c) }

pub returns : goal.returns
returns c = back-pos w32 c.whole.result (omega (arith, small c)) ∙ ap pos (is c)
