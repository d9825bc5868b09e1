-- `quad_h_rows` meets its contract. The invariant: the first r rows are written, and o is r bs. Assumes nothing.
use Prim.Native.Nat.{ℕ, ◌≤◌, ◌+◌, ◌-◌}
use native.Mathlib.Omega.{arith}
use mathlib.Core.Path.{◌≡◌, refl, sym, ◌∙◌, ap, subst}
use mathlib.Core.List.{List}
use lib.ListN.{length, get_or}
use lib.IntN.{pos}
use Rattle.lists.specs.Block.{sample}
use Rattle.lists.proofs.Fill.{filled_none}
use Rattle.lists.proofs.Block.{filled_row, part_length}
use Rattle.lists.proofs.RowLoop.{row_room, all-rows}
use Rattle.smooth_steps.specs.Parts.{weighed, Weights}
use Rattle.smooth_steps.proofs.Steps.{entry-abs, entry-most}
use Rattle.smooth_rows.proofs.quad_h_rows.Invariants.{at}
use Rattle.smooth_rows.proofs.quad_h_rows.Goals as goal

-- four weights
four : {xs : List ℕ} {n : ℕ} → Weights xs n n → n ≡ 4 → Weights xs 4 4
four {xs} w e = subst (λ n. Weights xs n n) e w

pub loop-r-init : goal.loop-r-init
loop-r-init c = (omega arith, omega arith, refl, sym (filled_none _ _))

pub quad_across-requires : goal.quad_across-requires
quad_across-requires c =
    let l = c.loop-r in
    let p = c.requires.bs_value in
    let room : l.o + c.args.bs ≤ length l.out = row_room c.args.bs l.invariant.1 c.loop-r-test.true p.3 l.invariant.2 in
    let left_is = c.natural.ensures ∙ entry-abs p.1 l.r (omega arith) in
    let row = part_length l.o c.args.bs l.out room ∙ p.0 in
    (row, p.0, p.2, omega (arith, left_is, entry-most p.1 l.r (omega arith)), four c.requires.weights p.0)

pub loop-r-preserved : goal.loop-r-preserved
loop-r-preserved c =
    let l = c.loop-r in
    let a = c.args in
    let p = c.requires.bs_value in
    let room : l.o + a.bs ≤ length l.out = row_room a.bs l.invariant.1 c.loop-r-test.true p.3 l.invariant.2 in
    let left_is = c.natural.ensures ∙ entry-abs p.1 l.r (omega arith) in (
      omega arith,
      omega arith,
      omega arith,
      filled_row a.bs l.r l.o (at a.bs a.left.now a.e a.weights.now) _ _ _ _
          l.invariant.1 room l.invariant.3 c.quad_across.ensures
          (λ j h. ap (λ t. sample (pos (weighed a.bs a.e t (a.bs - 1 - j) (get_or a.weights.now j 0)))) left_is),
    )

pub returns : goal.returns
returns c =
    let l = c.loop-r in
    let B = c.args.bs in
    all-rows B B l.r l.o _ _ _ l.invariant.1 l.invariant.0 (omega arith) l.invariant.3
