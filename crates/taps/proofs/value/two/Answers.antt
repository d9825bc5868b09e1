-- `two` meets its contract, as `four` does. Assumes nothing.
use native.Mathlib.Omega.{arith}
use mathlib.Core.Path.{◌≡◌}
use lib.IntN.{ℤ, pos, ◌+ℤ◌, ◌*ℤ◌}
use lib.Signed.{shr_z}
use mir.Syntax.{w32}
use mir.Val.{SFits}
use mir.Facts.{to_z-of_z}
use Rattle.signed.proofs.Range.{inside-abs}
use Rattle.signed.proofs.Bound.{b-abs, b-lit, b-add, b-mul, b-shr, b-fits, back}
use Rattle.taps.specs.Interp.{taps2}
use Rattle.taps.proofs.value.two.Goals as goal

record Fit (g f a b : ℤ) : Type 0 where
  m0 : SFits w32 (g *ℤ a)
  m1 : SFits w32 (f *ℤ b)
  s1 : SFits w32 (g *ℤ a +ℤ f *ℤ b)
  s2 : SFits w32 (g *ℤ a +ℤ f *ℤ b +ℤ pos 16)
  q : SFits w32 (shr_z (g *ℤ a +ℤ f *ℤ b +ℤ pos 16) 32)

fit : (c : goal.Start) → Fit c.args.g c.args.f c.args.a c.args.b
fit c =
    let s = c.requires in
    let m0 = b-mul (b-abs {m = 32} {z = c.args.g} s.0) (b-abs {m = 4095} {z = c.args.a} (inside-abs 4095 c.args.a s.2)) in
    let m1 = b-mul (b-abs {m = 32} {z = c.args.f} s.1) (b-abs {m = 4095} {z = c.args.b} (inside-abs 4095 c.args.b s.3)) in
    let s2 = b-add (b-add m0 m1) (b-lit 16) in
    record {
      m0 = b-fits w32 m0 tt;
      m1 = b-fits w32 m1 tt;
      s1 = b-fits w32 (b-add m0 m1) tt;
      s2 = b-fits w32 s2 tt;
      q = b-fits w32 (b-shr 32 s2) tt;
    }

module _ (c : goal.After-product-2) where
  abbrev s : goal.Start
  s = c.before.before

  first : c.product.result ≡ s.args.g *ℤ s.args.a
  first = simp (to_z-of_z, s.ranges.g, s.ranges.a) at c.product.ensures

  second : c.product-2.result ≡ s.args.f *ℤ s.args.b
  second = simp (to_z-of_z, s.ranges.f, s.ranges.b) at c.product-2.ensures

pub product-requires : goal.product-requires
product-requires s = simp (to_z-of_z, s.ranges.g, s.ranges.a) (omega (arith, s.requires.0), s.requires.2)

pub product-requires-2 : goal.product-requires-2
product-requires-2 c = let s = c.before in simp (to_z-of_z, s.ranges.f, s.ranges.b) (omega (arith, s.requires.1), s.requires.3)

pub overflow_add-result : goal.overflow_add-result
overflow_add-result c = let f = fit (s c) in simp (first c, second c, back w32 f.m0, back w32 f.m1) f.s1

pub overflow_add-result-2 : goal.overflow_add-result-2
overflow_add-result-2 c = let f = fit (s c) in simp (first c, second c, back w32 f.m0, back w32 f.m1, back w32 f.s1) f.s2

pub returns : goal.returns
unfolding taps2
returns c = let f = fit (s c) in simp (first c, second c, back w32 f.m0, back w32 f.m1, back w32 f.s1, back w32 f.s2) (back w32 f.q)
