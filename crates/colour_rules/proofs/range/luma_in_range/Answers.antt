-- `luma_in_range` meets its contract: the area that it tests holds what is needed. Assumes nothing.
use mathlib.Core.Path.{sym, ◌∙◌, subst}
use Prim.Native.Nat.{ℕ, ◌+◌, ◌*◌, ◌≤◌}
use native.Mathlib.Omega.{arith}
use lib.IntN.{pos, ◌+ℤ◌, ◌*ℤ◌}
use lib.ListN.{get_or}
use mir.Syntax.{w32}
use mir.Val.{SFits}
use mir.Facts.{to_z-of_z}
use Rattle.numbers.specs.Depth.{most}
use Rattle.signed.specs.Range.{inside}
use Rattle.signed.proofs.Bound.{sfits-abs}
use Rattle.edge_line.specs.Every.{every}
use Rattle.colour_terms.proofs.Most.{most-all}
use Rattle.colour_rules.proofs.Bounds.{area, up_one, beside-one, up-most, beside-most}
use Rattle.colour_rules.proofs.Reach.{cell}
use Rattle.colour_rules.proofs.Whole.{whole}
use Rattle.colour_rules.proofs.range.luma_in_range.Goals as goal
use Rattle.colour_rules.proofs.range.luma_in_range.Lts as lts
use Rattle.colour_rules.proofs.range.luma_in_range.Reads as reads
use Rattle.colour_rules.proofs.range.luma_in_range.Tie as tie

abbrev At-Start : Type 0
At-Start = lts.Start tie.the-claims reads.Pre reads.Post

abbrev At-After-beside_of-beside : Type 0
At-After-beside_of-beside = lts.After-beside_of tie.the-claims reads.Pre reads.Post

-- how far the area reaches
module _ (c : At-After-beside_of-beside) where
  abbrev s : At-Start
  s = c.before.before

  up-low : c.up_of-up.result ≤ s.args.b.above_lines
  up-low = subst (λ u. u ≤ s.args.b.above_lines) (sym c.up_of-up.ensures) (up-most _ _ s.requires.2)

  up-few : c.up_of-up.result ≤ 1
  up-few = subst (λ u. u ≤ 1) (sym c.up_of-up.ensures) (up_one _ _ s.requires.2)

  beside-low : c.beside_of-beside.result ≤ s.args.b.left_lines
  beside-low = subst (λ u. u ≤ s.args.b.left_lines) (sym c.beside_of-beside.ensures) (beside-most _ _ s.requires.2)

  beside-few : c.beside_of-beside.result ≤ 1
  beside-few = subst (λ u. u ≤ 1) (sym c.beside_of-beside.ensures) (beside-one _ _ s.requires.2)

-- 8M + 7
module _ (a : At-Start) where
  abbrev M : ℕ
  M = most a.args.b.d

  eight : SFits w32 (pos 8 *ℤ a.args.m)
  eight = subst (λ z. SFits w32 (pos 8 *ℤ z)) (sym a.requires.1) (sfits-abs w32 (pos (8 * M)) (omega (arith, most-all _ a.requires.0)))

  seven : SFits w32 (pos 8 *ℤ a.args.m +ℤ pos 7)
  seven = subst (λ z. SFits w32 (pos 8 *ℤ z +ℤ pos 7)) (sym a.requires.1) (sfits-abs w32 (pos (8 * M + 7)) (omega (arith, most-all _ a.requires.0)))

pub overflow_sub-s : goal.overflow_sub-s
overflow_sub-s c = up-low c.before

pub overflow_sub-s-2 : goal.overflow_sub-s-2
overflow_sub-s-2 c = beside-low c.before.before

pub overflow_add-b : goal.overflow_add-b
overflow_add-b c = let k = c.before.before.before in omega (arith, beside-few k, (s k).requires.2.wide)

pub overflow_add-b-2 : goal.overflow_add-b-2
overflow_add-b-2 c = let k = c.before.before.before.before in omega (arith, up-few k, (s k).requires.2.high)

pub overflow_mul-m : goal.overflow_mul-m
overflow_mul-m c = let a = s c.before.before.before.before in simp (to_z-of_z, a.ranges.m) (eight a)

pub overflow_add-m : goal.overflow_add-m
overflow_add-m c = let a = s c.before.before.before.before in simp (to_z-of_z, a.ranges.m, eight a) (seven a)

pub area_in_range-requires : goal.area_in_range-requires
area_in_range-requires c =
    let k = c.before.before.before.before in
    area _ _ (s k).requires.2 _ _ (up-low k) (beside-low k) (up-few k)

pub returns : goal.returns
returns c =
    let k = c.before.before.before.before.before in
    let a = s k in
    let b = a.args.b in
    let luma = a.args.luma.now in
    let u = k.up_of-up.ensures in
    let e = k.beside_of-beside.ensures in
    let is = simp (to_z-of_z, a.ranges.m, eight a, seven a) at c.area_in_range.ensures in
    is
    ∙ (λ j. every (λ y. every (λ x. inside (pos 8 *ℤ a.requires.1 j +ℤ pos 7) (get_or luma (cell b (u j) (e j) y x) (pos 0))) (b.width + e j)) (b.height + u j))
    ∙ sym (whole b _ a.requires.2 luma)
