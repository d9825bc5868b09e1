-- `corner_of` meets its contract: every step of the sum fits, and the tests lead to the definition's case. Assumes nothing.
use borrow.Author.Rules.{rules}
use mathlib.Core.Path.{◌≡◌}
use mathlib.Core.Bool.{true, false}
use mathlib.Core.Logic.{⊎_elim}
use lib.Dec.{leb}
use lib.IntN.{ℤ, pos, ◌+ℤ◌, ◌*ℤ◌}
use lib.Signed.{shr_z}
use mir.Syntax.{w32}
use mir.Val.{SFits}
use mir.Facts.{to_z-of_z}
use Rattle.signed.proofs.Range.{inside-abs}
use Rattle.signed.proofs.Bound.{Bound, b-lit, b-add, b-mul, b-shr, b-fits}
use Rattle.strength.specs.Corner.{filtered_corner}
use Rattle.strength.proofs.corner.corner_of.Goals as goal
use Rattle.strength.proofs.corner.corner_of.Lts as lts
use Rattle.strength.proofs.corner.corner_of.Reads as reads

abbrev At-Start : Type 0
At-Start = lts.Start reads.Pre reads.Post

record Fit (l k a : ℤ) : Type 0 where
  m0 : SFits w32 (pos 5 *ℤ l)
  m1 : SFits w32 (pos 6 *ℤ k)
  m2 : SFits w32 (pos 5 *ℤ a)
  s1 : SFits w32 (pos 5 *ℤ l +ℤ pos 6 *ℤ k)
  s2 : SFits w32 (pos 5 *ℤ l +ℤ pos 6 *ℤ k +ℤ pos 5 *ℤ a)
  s3 : SFits w32 (pos 5 *ℤ l +ℤ pos 6 *ℤ k +ℤ pos 5 *ℤ a +ℤ pos 8)
  q : SFits w32 (shr_z (pos 5 *ℤ l +ℤ pos 6 *ℤ k +ℤ pos 5 *ℤ a +ℤ pos 8) 16)

fit : (c : At-Start) → Fit c.args.left0 c.args.corner c.args.above0
fit c =
    let l : Bound 4095 c.args.left0 = record { most = inside-abs 4095 c.args.left0 c.requires.0 } in
    let k : Bound 4095 c.args.corner = record { most = inside-abs 4095 c.args.corner c.requires.1 } in
    let a : Bound 4095 c.args.above0 = record { most = inside-abs 4095 c.args.above0 c.requires.2 } in
    let m0 = b-mul (b-lit 5) l in
    let m1 = b-mul (b-lit 6) k in
    let m2 = b-mul (b-lit 5) a in
    let s2 = b-add (b-add m0 m1) m2 in
    let s3 = b-add s2 (b-lit 8) in
    record {
      m0 = b-fits w32 m0 tt;
      m1 = b-fits w32 m1 tt;
      m2 = b-fits w32 m2 tt;
      s1 = b-fits w32 (b-add m0 m1) tt;
      s2 = b-fits w32 s2 tt;
      s3 = b-fits w32 s3 tt;
      q = b-fits w32 (b-shr 16 s3) tt;
    }

pub overflow_mul-result : goal.overflow_mul-result
overflow_mul-result c = let f = fit c.before.before in search rules

pub overflow_mul-result-then-wh-ge24 : goal.overflow_mul-result-then-wh-ge24
overflow_mul-result-then-wh-ge24 c = let f = fit c.before.before in search rules

pub overflow_add-result : goal.overflow_add-result
overflow_add-result c = let f = fit c.before.before in search rules

pub overflow_mul-result-then-wh-ge24-2 : goal.overflow_mul-result-then-wh-ge24-2
overflow_mul-result-then-wh-ge24-2 c = let f = fit c.before.before in search rules

pub overflow_add-result-then-wh-ge24 : goal.overflow_add-result-then-wh-ge24
overflow_add-result-then-wh-ge24 c = let f = fit c.before.before in search rules

pub overflow_add-result-then-wh-ge24-2 : goal.overflow_add-result-then-wh-ge24-2
overflow_add-result-then-wh-ge24-2 c = let f = fit c.before.before in search rules

pub returns-then-wh-ge24 : goal.returns-then-wh-ge24
unfolding filtered_corner
returns-then-wh-ge24 c =
    let s = c.before.before in
    let f = fit s in
    let large : leb 24 s.args.wh ≡ true = c.if-wh-ge24.true-raw in
    simp (c.if-filter.true, large) (search rules)

pub returns-else-filter : goal.returns-else-filter
unfolding filtered_corner
returns-else-filter c =
    let s = c.before in
    ⊎_elim
    (λ w. let small : leb 24 s.args.wh ≡ false = w.if-wh-ge24.false-raw in simp (w.if-filter.true, small) (to_z-of_z s.ranges.corner))
    (λ w. simp w.if-filter.false (to_z-of_z s.ranges.corner))
    c.else-filter.branch-raw
