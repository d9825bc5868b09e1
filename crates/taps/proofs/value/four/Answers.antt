-- `four` meets its contract: a bound for each product and each sum, by which it fits, and is read back as it was. Assumes nothing.
use mathlib.Core.Path.{◌≡◌}
use lib.IntN.{ℤ, pos, ◌+ℤ◌, ◌*ℤ◌}
use lib.Signed.{shr_z}
use mir.Syntax.{w32}
use mir.Val.{SFits}
use mir.Facts.{to_z-of_z}
use Rattle.signed.proofs.Range.{inside-abs}
use Rattle.signed.proofs.Bound.{b-abs, b-lit, b-add, b-mul, b-shr, b-fits, back}
use Rattle.taps.specs.Interp.{taps4}
use Rattle.taps.proofs.value.four.Goals as goal
use Rattle.taps.proofs.value.four.Lts as lts
use Rattle.taps.proofs.value.four.Reads as reads
use Rattle.taps.proofs.value.four.Tie as tie

abbrev At-Start : Type 0
At-Start = lts.Start tie.the-claims reads.Pre reads.Post tie.handed_clauses

record Fit (f0 f1 f2 f3 a b c d : ℤ) : Type 0 where
  m0 : SFits w32 (f0 *ℤ a)
  m1 : SFits w32 (f1 *ℤ b)
  m2 : SFits w32 (f2 *ℤ c)
  m3 : SFits w32 (f3 *ℤ d)
  s1 : SFits w32 (f0 *ℤ a +ℤ f1 *ℤ b)
  s2 : SFits w32 (f0 *ℤ a +ℤ f1 *ℤ b +ℤ f2 *ℤ c)
  s3 : SFits w32 (f0 *ℤ a +ℤ f1 *ℤ b +ℤ f2 *ℤ c +ℤ f3 *ℤ d)
  s4 : SFits w32 (f0 *ℤ a +ℤ f1 *ℤ b +ℤ f2 *ℤ c +ℤ f3 *ℤ d +ℤ pos 64)
  q : SFits w32 (shr_z (f0 *ℤ a +ℤ f1 *ℤ b +ℤ f2 *ℤ c +ℤ f3 *ℤ d +ℤ pos 64) 128)

fit : (c : At-Start) → Fit c.args.f0 c.args.f1 c.args.f2 c.args.f3 c.args.a c.args.b c.args.c c.args.d
fit c =
    let t = c.requires.taps in
    let s = c.requires.a_value in
    let m0 = b-mul (b-abs {m = 128} {z = c.args.f0} t.t0) (b-abs {m = 4095} {z = c.args.a} (inside-abs 4095 c.args.a s.0)) in
    let m1 = b-mul (b-abs {m = 128} {z = c.args.f1} t.t1) (b-abs {m = 4095} {z = c.args.b} (inside-abs 4095 c.args.b s.1)) in
    let m2 = b-mul (b-abs {m = 128} {z = c.args.f2} t.t2) (b-abs {m = 4095} {z = c.args.c} (inside-abs 4095 c.args.c s.2)) in
    let m3 = b-mul (b-abs {m = 128} {z = c.args.f3} t.t3) (b-abs {m = 4095} {z = c.args.d} (inside-abs 4095 c.args.d s.3)) in
    let s4 = b-add (b-add (b-add (b-add m0 m1) m2) m3) (b-lit 64) in
    record {
      m0 = b-fits w32 m0 tt;
      m1 = b-fits w32 m1 tt;
      m2 = b-fits w32 m2 tt;
      m3 = b-fits w32 m3 tt;
      s1 = b-fits w32 (b-add m0 m1) tt;
      s2 = b-fits w32 (b-add (b-add m0 m1) m2) tt;
      s3 = b-fits w32 (b-add (b-add (b-add m0 m1) m2) m3) tt;
      s4 = b-fits w32 s4 tt;
      q = b-fits w32 (b-shr 128 s4) tt;
    }

module _ (c : goal.After-product-2) where
  abbrev s : At-Start
  s = c.before.before

  first : c.product.result ≡ s.args.f0 *ℤ s.args.a
  first = simp (to_z-of_z, s.ranges.f0, s.ranges.a) at c.product.ensures

  second : c.product-2.result ≡ s.args.f1 *ℤ s.args.b
  second = simp (to_z-of_z, s.ranges.f1, s.ranges.b) at c.product-2.ensures

third : (c : goal.After-product-3) → c.product-3.result ≡ (s c.before).args.f2 *ℤ (s c.before).args.c
third c = let s = s c.before in simp (to_z-of_z, s.ranges.f2, s.ranges.c) at c.product-3.ensures

fourth : (c : goal.After-product-4) → c.product-4.result ≡ (s c.before.before).args.f3 *ℤ (s c.before.before).args.d
fourth c = let s = s c.before.before in simp (to_z-of_z, s.ranges.f3, s.ranges.d) at c.product-4.ensures

pub overflow_add-result : goal.overflow_add-result
overflow_add-result c = let f = fit (s c) in simp (first c, second c, back w32 f.m0, back w32 f.m1) f.s1

pub overflow_add-result-2 : goal.overflow_add-result-2
overflow_add-result-2 c =
    let b = c.before in
    let f = fit (s b) in
    simp (first b, second b, third c, back w32 f.m0, back w32 f.m1, back w32 f.m2, back w32 f.s1) f.s2

pub overflow_add-result-3 : goal.overflow_add-result-3
overflow_add-result-3 c =
    let b = c.before.before in
    let f = fit (s b) in
    simp (first b, second b, third c.before, fourth c, back w32 f.m0, back w32 f.m1, back w32 f.m2, back w32 f.m3, back w32 f.s1, back w32 f.s2) f.s3

pub overflow_add-result-4 : goal.overflow_add-result-4
overflow_add-result-4 c =
    let b = c.before.before in
    let f = fit (s b) in
    simp (first b, second b, third c.before, fourth c, back w32 f.m0, back w32 f.m1, back w32 f.m2, back w32 f.m3, back w32 f.s1, back w32 f.s2, back w32 f.s3) f.s4

pub returns : goal.returns
unfolding taps4
returns c =
    let b = c.before.before in
    let f = fit (s b) in
    simp (first b, second b, third c.before, fourth c, back w32 f.m0, back w32 f.m1, back w32 f.m2, back w32 f.m3, back w32 f.s1, back w32 f.s2, back w32 f.s3, back w32 f.s4)
    (back w32 f.q)
