-- `short_sample` meets its contract: its terms are in 0..M, and each product is the definition's. Assumes nothing.
use borrow.Author.Rules.{sfits_of}
use mathlib.Core.Path.{◌≡◌, ap}
use Prim.Native.Nat.{◌≤◌, ◌^◌}
use lib.IntN.{nat_abs, ◌+ℤ◌}
use mir.Syntax.{w32}
use mir.Val.{SFits}
use mir.Facts.{to_z-of_z}
use Rattle.signed.proofs.Bound.{back}
use Rattle.fixed_product.specs.Product.{mul_fixed}
use Rattle.fixed_product.proofs.Thru.{thru, got}
use Rattle.colour_terms.specs.Terms.{eighth, squared}
use Rattle.colour_terms.proofs.Most.{most-all}
use Rattle.colour_row.specs.Sample.{total, clipped}
use Rattle.colour_row.proofs.Held.{mid=, half0=, half1=, eighth-twelve, eighth-pos, squared-pos, first_below, second_below, first_small, second-small}
use Rattle.colour_row.proofs.value.short_sample.Goals as goal
use Rattle.colour_row.proofs.value.short_sample.Lts as lts
use Rattle.colour_row.proofs.value.short_sample.Reads as reads
use Rattle.colour_row.proofs.value.short_sample.Tie as tie

abbrev At-After-eighth : Type 0
At-After-eighth = lts.After-eighth2 tie.the-claims reads.Pre reads.Post

abbrev At-Start : Type 0
At-Start = lts.Start tie.the-claims reads.Pre reads.Post

abbrev At-After-squared-s : Type 0
At-After-squared-s = lts.After-squared tie.the-claims reads.Pre reads.Post

abbrev At-After-struct_told-2-1 : Type 0
At-After-struct_told-2-1 = lts.After-struct_told2 tie.the-claims reads.Pre reads.Post

abbrev At-After-struct_told-4-1 : Type 0
At-After-struct_told-4-1 = lts.After-struct_told4 tie.the-claims reads.Pre reads.Post

abbrev At-After-short-2 : Type 0
At-After-short-2 = lts.After-short2 tie.the-claims reads.Pre reads.Post

abbrev At-After-short : Type 0
At-After-short = lts.After-short tie.the-claims reads.Pre reads.Post

module _ (c : At-After-eighth) where
  abbrev s : At-Start
  s = c.before.before

  n= : thru c.eighth-e.result ≡ eighth s.args.n
  n= = got c.eighth-e.type_inv c.eighth-e.ensures (ap eighth (to_z-of_z s.ranges.n))

  c= : thru c.eighth.result ≡ eighth s.args.c
  c= = got c.eighth.type_inv c.eighth.ensures (ap eighth (to_z-of_z s.ranges.c))

module _ (c : At-After-squared-s) where
  abbrev t : At-After-eighth
  t = c.before.before

  s= : thru c.squared-s.result ≡ squared (s t).args.k.bits (eighth (s t).args.c)
  s= = got c.squared-s.type_inv c.squared-s.ensures (ap (squared (s t).args.k.bits) (c= t))

pub squared-s-requires : goal.squared-s-requires
squared-s-requires c =
    let t = c.before.before in
    let s = s t in
    let k = s.args.k in
    simp (c= t, mid= k s.requires.0)
    (eighth-twelve k s.requires.0 s.args.c s.requires.3, s.requires.0.mid, (most-all k.bits s.requires.0.depth).0)

-- the parameters, as any 32-bit numbers
module _ (c : At-After-struct_told-2-1) where
  abbrev s0 : At-Start
  s0 = s (t c.before)

  p0-fits : SFits w32 s0.args.k.p0
  p0-fits = sfits_of c.struct_told-2-1.given.1.1.1.0.1

  p0= : thru s0.args.k.p0 ≡ s0.args.k.p0
  p0= = back w32 p0-fits

module _ (c : At-After-struct_told-4-1) where
  abbrev s1 : At-Start
  s1 = s (t c.before.before.before.before)

  p1-fits : SFits w32 s1.args.k.p1
  p1-fits = sfits_of c.struct_told-4-1.given.1.1.1.1.0.1

  p1= : thru s1.args.k.p1 ≡ s1.args.k.p1
  p1= = back w32 p1-fits

pub short-requires : goal.short-requires
short-requires c =
    let a = c.before.before in
    let s = s0 a in
    let k = s.args.k in
    simp (p0= a, half0= k s.requires.0, n= (t a.before))
    (eighth-pos k s.requires.0 s.args.n s.requires.2, first_below k s.requires.0 s.args.n s.requires.2 s.requires.1, s.requires.0.half0)

pub short-requires-2 : goal.short-requires-2
short-requires-2 c =
    let a = c.before.before in
    let s = s1 a in
    let k = s.args.k in
    simp (p1= a, half1= k s.requires.0, s= a.before.before.before.before)
    (squared-pos k s.requires.0 s.args.c s.requires.3, second_below k s.requires.0 s.args.c s.requires.3 s.requires.1, s.requires.0.half1)

-- what the products gave
module _ (c : At-After-short-2) where
  abbrev m : At-After-short
  m = c.before.before.before

  abbrev q : At-After-squared-s
  q = m.before.before.before

  abbrev u : At-Start
  u = s (t q)

  x= : thru m.short.result ≡ mul_fixed u.args.k.p0 (eighth u.args.n) 16
  x= = got m.short.type_inv m.short.ensures (λ j. mul_fixed (p0= m.before.before j) (n= (t q) j) 16)

  y= : thru c.short-2.result ≡ mul_fixed u.args.k.p1 (squared u.args.k.bits (eighth u.args.c)) 16
  y= = got c.short-2.type_inv c.short-2.ensures (λ j. mul_fixed (p1= c.before.before j) (s= q j) 16)

  x-small : nat_abs (thru m.short.result) ≤ 2 ^ 29
  x-small = rw x= (first_small u.args.k u.requires.0 _ _ (p0-fits m.before.before) u.requires.2)

  y-small : nat_abs (thru c.short-2.result) ≤ 2 ^ 29
  y-small = rw y= (second-small u.args.k u.requires.0 _ _ (p1-fits c.before.before) u.requires.3)

pub sum-requires : goal.sum-requires
sum-requires c = ((u c.before).requires.0, x-small c.before, y-small c.before)

pub returns : goal.returns
unfolding total
returns c =
    let m = c.before in
    got c.sum.type_inv c.sum.ensures (λ j. clipped (u m).args.k.bits (x= m j +ℤ y= m j +ℤ (u m).args.k.third))
