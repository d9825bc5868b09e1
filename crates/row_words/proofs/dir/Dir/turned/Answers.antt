-- `Dir::turned` meets its contract: the sum is the angle, which is small and not negative. Assumes nothing.
use native.Mathlib.Omega.{arith}
use mathlib.Core.Path.{◌≡◌, ◌∙◌, ap, ap₂, subst}
use lib.Dec.{T}
use lib.IntN.{ℤ, pos, ◌+ℤ◌, ◌*ℤ◌}
use lib.Signed.{non_neg}
use mir.Facts.{to_z-of_z}
use mir.Syntax.{w32}
use mir.Val.{SFits, to_z, of_z}
use borrow.Author.Rules.{sfits_of}
use Rattle.signed.proofs.Bound.{sfits-abs, back, back-abs}
use Rattle.row_words.specs.Dir.{angle_of}
use Rattle.row_words.proofs.Angle.{step_small, angle-pos, angle-range}
use Rattle.row_words.proofs.dir.Dir.turned.Goals as goal
use Rattle.row_words.proofs.dir.Dir.turned.Lts as lts
use Rattle.row_words.proofs.dir.Dir.turned.Reads as reads
use Rattle.row_words.proofs.dir.Dir.turned.Tie as tie

abbrev At-Start : Type 0
At-Start = lts.Start tie.the-claims reads.Pre reads.Post

module _ (c : goal.After-angle) where
  abbrev s : At-Start
  s = c.before

  step_fits : SFits w32 (pos 3 *ℤ s.args.delta)
  step_fits = sfits-abs w32 _ (omega (arith, step_small s.args.delta s.requires))

  -- what the code adds, and that it is the angle
  abbrev sum : ℤ
  sum = to_z w32 (of_z w32 c.angle.result) +ℤ to_z w32 (of_z w32 (pos 3 *ℤ to_z w32 (of_z w32 s.args.delta)))

  step_is : to_z w32 (of_z w32 (pos 3 *ℤ to_z w32 (of_z w32 s.args.delta))) ≡ pos 3 *ℤ s.args.delta
  step_is = ap (λ z. to_z w32 (of_z w32 (pos 3 *ℤ z))) (to_z-of_z s.ranges.delta) ∙ to_z-of_z step_fits

  sum_is : sum ≡ angle_of s.args.self s.args.delta
  unfolding angle_of
  sum_is = ap₂ (λ x y. x +ℤ y) (back w32 {z = c.angle.result} (sfits_of c.angle.type_inv) ∙ c.angle.ensures) step_is

  angle-is : to_z w32 (of_z w32 sum) ≡ angle_of s.args.self s.args.delta
  angle-is = ap (λ z. to_z w32 (of_z w32 z)) sum_is ∙ back-abs w32 _ (omega (arith, angle-range s.args.self s.args.delta s.requires))

pub overflow_mul-result : goal.overflow_mul-result
overflow_mul-result c = simp (to_z-of_z, (s c).ranges.delta) (step_fits c)

pub overflow_add-result : goal.overflow_add-result
overflow_add-result c = rw (sum_is c) (sfits-abs w32 _ (omega (arith, angle-range (s c).args.self (s c).args.delta (s c).requires)))

pub overflow_cast-result : goal.overflow_cast-result
overflow_cast-result c =
    let a = angle-range (s c).args.self (s c).args.delta (s c).requires in
    rw (angle-is c) (subst (λ z. T (non_neg z)) (angle-pos (s c).args.self (s c).args.delta (s c).requires) tt, omega (arith, a))

pub returns : goal.returns
returns c = rw (angle-is c) (angle-pos (s c).args.self (s c).args.delta (s c).requires)
