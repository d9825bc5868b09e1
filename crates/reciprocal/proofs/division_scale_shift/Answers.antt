-- `division_scale_shift` meets its contract. Assumes nothing.
use Rattle.std.proofs.Common.{◌≡◌, ℕ, ◌%◌, min, max, ℤ, pos, ◌*ℤ◌, sym, ap, ◌∙◌, subst, arith, w32, SFits, to_z, of_z}
use borrow.Author.Rules.{sfits_of}
use Rattle.signed.proofs.Bound.{back}
use Rattle.reciprocal.specs.Division.{curve, moved, fraction, scale_of}
use Rattle.reciprocal.proofs.Range.{scale-fits}
use Rattle.reciprocal.proofs.division_scale_shift.Goals as goal
use Rattle.reciprocal.proofs.division_scale_shift.Lts as lts
use Rattle.reciprocal.proofs.division_scale_shift.Reads as reads
use Rattle.reciprocal.proofs.division_scale_shift.Tie as tie

abbrev At-Start : Type 0
At-Start = lts.Start tie.the-claims reads.Pre reads.Post

turn : (n : ℕ) → min n 32767 ≡ min 32767 n
turn n = omega arith

-- four times what `curve` gave
module _ (c : goal.After-curve) where
  abbrev s : At-Start
  s = c.before.before.before.before

  is : to_z w32 (of_z w32 c.curve.result) *ℤ pos 4 ≡ scale_of s.args.d
  unfolding scale_of fraction
  is =
      ap (λ (z : ℤ). z *ℤ pos 4)
      (back w32 {z = c.curve.result} (sfits_of c.curve.type_inv) ∙ c.curve.ensures ∙
      ap (λ (n : ℕ). curve (n % 16384))
      (c.clamp-n.ensures ∙ ap (max 1) (turn c.moved.result) ∙
      ap (λ (n : ℕ). max 1 (min 32767 n))
      (c.moved.ensures ∙ ap (moved s.args.d) c.ilog2-shift.ensures)))

pub overflow_mul-result : goal.overflow_mul-result
overflow_mul-result c = subst (SFits w32) (sym (is c)) (scale-fits (s c).args.d)

pub returns : goal.returns
returns c = (ap (λ (z : ℤ). to_z w32 (of_z w32 z)) (is c) ∙ back w32 (scale-fits (s c).args.d), c.ilog2-shift.ensures)
