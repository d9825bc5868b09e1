-- `paeth_single` meets its contract. Assumes nothing.
use native.Mathlib.Omega.{arith}
use mathlib.Core.Path.{◌≡◌, sym, ◌∙◌, ap, subst}
use mir.Facts.{to_z-of_z}
use mir.Syntax.{w32}
use mir.Val.{SFits, to_z, of_z}
use lib.IntN.{ℤ, pos, nat_abs, neg_ℤ, ◌+ℤ◌}
use Rattle.signed.proofs.Bound.{sfits-abs}
use Rattle.signed.proofs.Order.{le-neg}
use Rattle.paeth_rows.specs.Chosen.{chosen}
use Rattle.paeth_rows.proofs.Laws.{from-corner, chosen-small, less_none}
use Rattle.paeth_rows.proofs.value.paeth_single.Answers.Distances.{x, y, x_fits, y-fits, sum-small, sum_fits, left-top, left-corner, top-corner}
use Rattle.paeth_rows.proofs.value.paeth_single.Goals as goal
mod Distances

pub nearness-to_left-requires : goal.nearness-to_left-requires
nearness-to_left-requires c = simp (to_z-of_z, c.ranges.top, c.ranges.corner) (omega arith)

pub nearness-to_top-requires : goal.nearness-to_top-requires
nearness-to_top-requires c = simp (to_z-of_z, c.ranges.left, c.ranges.corner) (omega arith)

pub overflow_sub-x : goal.overflow_sub-x
overflow_sub-x c = simp (to_z-of_z, c.ranges.top, c.ranges.corner) (x_fits c.args.left c.args.top c.args.corner c.requires)

pub overflow_sub-y : goal.overflow_sub-y
overflow_sub-y c = simp (to_z-of_z, c.ranges.left, c.ranges.corner) (y-fits c.args.left c.args.top c.args.corner c.requires)

pub overflow_add-x : goal.overflow_add-x
overflow_add-x c =
    let a = c.args in
    let x' = x_fits a.left a.top a.corner c.requires in
    let y' = y-fits a.left a.top a.corner c.requires in
    simp (to_z-of_z, c.ranges.left, c.ranges.top, c.ranges.corner, x', y') (sum_fits a.left a.top a.corner c.requires)

pub nearness-to_corner-requires : goal.nearness-to_corner-requires
nearness-to_corner-requires c =
    let a = c.args in
    let x' = x_fits a.left a.top a.corner c.requires in
    let y' = y-fits a.left a.top a.corner c.requires in
    let z' = sum_fits a.left a.top a.corner c.requires in
    simp (to_z-of_z, c.ranges.left, c.ranges.top, c.ranges.corner, x', y', z') (omega (arith, sum-small a.left a.top a.corner c.requires))

back : (z : ℤ) → SFits w32 z → to_z w32 (of_z w32 z) ≡ z
back z h = to_z-of_z h

pub overflow_add-result : goal.overflow_add-result
unfolding chosen
overflow_add-result c =
    let a = c.args in
    let p = c.requires in
    let x' = x_fits a.left a.top a.corner p in
    let y' = y-fits a.left a.top a.corner p in
    let z' = sum_fits a.left a.top a.corner p in
    let to-left = back c.nearness-to_left.result (record { sfits = c.nearness-to_left.type_inv }) ∙ simp (to_z-of_z, c.ranges.top, c.ranges.corner) at c.nearness-to_left.ensures in
    let to-top = back c.nearness-to_top.result (record { sfits = c.nearness-to_top.type_inv }) ∙ simp (to_z-of_z, c.ranges.left, c.ranges.corner) at c.nearness-to_top.ensures in
    let to-corner = back c.nearness-to_corner.result (record { sfits = c.nearness-to_corner.type_inv })
    ∙ simp (to_z-of_z, c.ranges.left, c.ranges.top, c.ranges.corner, x', y', z') at c.nearness-to_corner.ensures
    ∙ ap (λ z. neg_ℤ (pos (nat_abs z))) (less_none (x a.left a.top a.corner +ℤ y a.left a.top a.corner)) in
    let other = back c.select-other.result (record { sfits = c.select-other.type_inv }) ∙ simp (to_z-of_z, c.ranges.top, c.ranges.corner, x', to-top, to-corner, le-neg) at c.select-other.ensures in
    let nearest = back c.select-nearest.result (record { sfits = c.select-nearest.type_inv }) ∙ simp (to_z-of_z, c.ranges.left, c.ranges.corner, y', to-left, to-corner, le-neg, other) at c.select-nearest.ensures in
    let step = back c.select.result (record { sfits = c.select.type_inv }) ∙ simp (to_z-of_z, to-left, to-top, le-neg, other, nearest) at c.select.ensures in
    let sum = ap (λ z. a.corner +ℤ z) step
    ∙ from-corner (left-top a.left a.top a.corner) (left-corner a.left a.top a.corner) (top-corner a.left a.top a.corner) a.left a.top a.corner in
    let fits = subst (SFits w32) (sym sum) (sfits-abs w32 _ (omega (arith, chosen-small 4095 a.left a.top a.corner p.0 p.1 p.2))) in
    rw (to_z-of_z c.ranges.corner) fits

pub returns : goal.returns
unfolding chosen
returns c =
    let a = c.args in
    let p = c.requires in
    let x' = x_fits a.left a.top a.corner p in
    let y' = y-fits a.left a.top a.corner p in
    let z' = sum_fits a.left a.top a.corner p in
    let to-left = back c.nearness-to_left.result (record { sfits = c.nearness-to_left.type_inv }) ∙ simp (to_z-of_z, c.ranges.top, c.ranges.corner) at c.nearness-to_left.ensures in
    let to-top = back c.nearness-to_top.result (record { sfits = c.nearness-to_top.type_inv }) ∙ simp (to_z-of_z, c.ranges.left, c.ranges.corner) at c.nearness-to_top.ensures in
    let to-corner = back c.nearness-to_corner.result (record { sfits = c.nearness-to_corner.type_inv })
    ∙ simp (to_z-of_z, c.ranges.left, c.ranges.top, c.ranges.corner, x', y', z') at c.nearness-to_corner.ensures
    ∙ ap (λ z. neg_ℤ (pos (nat_abs z))) (less_none (x a.left a.top a.corner +ℤ y a.left a.top a.corner)) in
    let other = back c.select-other.result (record { sfits = c.select-other.type_inv }) ∙ simp (to_z-of_z, c.ranges.top, c.ranges.corner, x', to-top, to-corner, le-neg) at c.select-other.ensures in
    let nearest = back c.select-nearest.result (record { sfits = c.select-nearest.type_inv }) ∙ simp (to_z-of_z, c.ranges.left, c.ranges.corner, y', to-left, to-corner, le-neg, other) at c.select-nearest.ensures in
    let step = back c.select.result (record { sfits = c.select.type_inv }) ∙ simp (to_z-of_z, to-left, to-top, le-neg, other, nearest) at c.select.ensures in
    let sum = ap (λ z. a.corner +ℤ z) step
    ∙ from-corner (left-top a.left a.top a.corner) (left-corner a.left a.top a.corner) (top-corner a.left a.top a.corner) a.left a.top a.corner in
    let fits = subst (SFits w32) (sym sum) (sfits-abs w32 _ (omega (arith, chosen-small 4095 a.left a.top a.corner p.0 p.1 p.2))) in
    rw (to_z-of_z c.ranges.corner) (to_z-of_z fits ∙ sum)
