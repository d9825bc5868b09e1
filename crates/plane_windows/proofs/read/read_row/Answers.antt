-- `read_row` meets its contract. The invariant: the first i entries are read. Assumes nothing.
use Prim.Native.Nat.{ℕ, ◌*◌, ◌≤◌}
use native.Mathlib.Omega.{arith}
use mathlib.Core.Path.{◌≡◌, refl, sym, ◌∙◌, ap}
use lib.IntN.{ℤ, pos, nat_abs, ◌*ℤ◌}
use lib.Ieee.{nan}
use lib.ListN.{get_or, length-set}
use mir.Syntax.{w32}
use mir.Val.{SFits, to_z, of_z}
use borrow.Author.Rules.{sfits_of}
use Rattle.signed.proofs.Bound.{back}
use Rattle.lists.proofs.Fill.{filled_none, filled_more}
use Rattle.samples.specs.Sample.{reading}
use Rattle.samples.proofs.Reading.{reading_small}
use Rattle.plane_windows.proofs.Into.{times-is, times-fit}
use Rattle.plane_windows.proofs.read.read_row.Goals as goal

pub loop-i-init : goal.loop-i-init
loop-i-init c = (omega arith, refl, sym (filled_none _ _))

-- what the product is made of
module _ (c : goal.After-read_sample) where
  abbrev r : ℕ
  r = reading (get_or c.args.row.now c.loop-i.i nan)

  factors : to_z w32 (of_z w32 c.args.times) *ℤ to_z w32 (of_z w32 c.read_sample.result) ≡ c.args.times *ℤ pos r
  factors =
      let told = back w32 {z = c.read_sample.result} (sfits_of c.read_sample.type_inv) ∙ c.read_sample.ensures in
      λ j. back w32 c.ranges.times j *ℤ told j

  small : r ≤ 4095
  small = reading_small _ (c.requires.by_index c.loop-i.i (omega arith))

  product : SFits w32 (c.args.times *ℤ pos r)
  product = times-fit c.args.times r c.requires.part_in_bounds.1 small

pub overflow_mul-part : goal.overflow_mul-part
overflow_mul-part c = rw (factors c) (product c)

pub loop-i-preserved : goal.loop-i-preserved
loop-i-preserved c =
    let l = c.loop-i in
    let read = ap (λ (z : ℤ). to_z w32 (of_z w32 z)) (factors c) ∙ back w32 {z = c.args.times *ℤ pos (r c)} (product c) in
    let told = read ∙ times-is c.args.times (r c) c.requires.part_in_bounds.1 in
    let same = ap (λ z. pos (nat_abs z * r c)) (sym (back w32 c.ranges.times)) in
    (omega arith, simp length-set l.invariant.1, filled_more l.i _ _ _ _ (pos 0) (omega arith) l.invariant.2 (told ∙ same))
