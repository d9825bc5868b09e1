-- `product` meets its contract: a tap fits 16 bits, and an entry has no more than twelve. Assumes nothing.
use native.Mathlib.Omega.{arith}
use mathlib.Core.Path.{◌≡◌, sym, ◌∙◌, ap}
use Prim.Native.Nat.{◌≤◌}
use lib.Bits.{bit_and}
use lib.IntN.{pos, nat_abs, ◌*ℤ◌}
use mir.Syntax.{w16, w32}
use mir.Val.{SFits, to_z, of_z}
use mir.Facts.{to_z-of_z}
use Rattle.signed.proofs.Range.{inside-abs, inside-pos}
use Rattle.signed.proofs.Naturals.{low-back, low-is}
use Rattle.signed.proofs.Bound.{b-abs, b-mul, b-fits, sfits-abs, back, widens, widened}
use Rattle.taps.proofs.value.product.Goals as goal

module _ (s : goal.Start) where
  short : SFits w16 s.args.f
  short = sfits-abs w16 s.args.f (omega (arith, s.requires.0))

  small : nat_abs s.args.a ≤ 4095
  small = inside-abs 4095 s.args.a s.requires.1

  entry : to_z w32 (bit_and (of_z w32 s.args.a) 4095) ≡ s.args.a
  entry =
      low-back s.args.a
      ∙ ap pos (low-is s.args.a s.requires.1)
      ∙ sym (inside-pos 4095 s.args.a s.requires.1)

  fits : SFits w32 (s.args.f *ℤ s.args.a)
  fits = b-fits w32 (b-mul (b-abs {m = 128} {z = s.args.f} s.requires.0) (b-abs {m = 4095} {z = s.args.a} small)) tt

pub overflow_cast-result : goal.overflow_cast-result
overflow_cast-result s = simp (to_z-of_z, s.ranges.f) (short s)

pub overflow_cast-result-2 : goal.overflow_cast-result-2
overflow_cast-result-2 s = simp (to_z-of_z, s.ranges.f) (widens w32 w16 {z = s.args.f} tt (short s))

pub overflow_mul-result : goal.overflow_mul-result
overflow_mul-result s = simp (to_z-of_z, s.ranges.f, widened w32 w16 {z = s.args.f} tt (short s), entry s) (fits s)

pub returns : goal.returns
returns s = simp (to_z-of_z, s.ranges.f, widened w32 w16 {z = s.args.f} tt (short s), entry s) (back w32 (fits s))
