-- `paeth_into` meets its contract. Assumes nothing.
use Prim.Native.Nat.{◌≤◌, ◌+◌, ◌*◌}
use native.Mathlib.Omega.{arith}
use mathlib.Core.Path.{◌≡◌, refl, sym, ◌∙◌, ap}
use lib.ListN.{length, get_or}
use lib.IntN.{ℤ, pos, nat_abs}
use mir.Syntax.{w32}
use mir.Val.{to_z, of_z}
use mir.Facts.{to_z-of_z}
use Rattle.lists.specs.Block.{sample, rows, block}
use Rattle.signed.proofs.Bound.{back-abs}
use Rattle.signed.proofs.Range.{inside-abs}
use Rattle.lists.specs.Fill.{filled}
use Rattle.lists.proofs.Fill.{filled_none}
use Rattle.lists.proofs.Block.{filled_row, part_length}
use Rattle.lists.proofs.RowLoop.{row_room, all-rows}
use Rattle.paeth_rows.specs.Chosen.{chosen}
use Rattle.paeth.specs.Paeth.{paeth_at}
use Rattle.paeth.proofs.Laws.{paeth-is}
use Rattle.paeth.proofs.block.paeth_into.Invariants.{at}
use Rattle.paeth.proofs.block.paeth_into.Goals as goal

module _ {z : ℤ} (h : nat_abs z ≤ 4095) where
  z-back : to_z w32 (of_z w32 z) ≡ z
  z-back = back-abs w32 z (omega (arith, h))

pub loop-r-init : goal.loop-r-init
loop-r-init c = let none : 0 * c.args.bs ≡ 0 = omega arith in (refl, sym (rw none (filled_none _ _)))

pub paeth_row-requires : goal.paeth_row-requires
paeth_row-requires c =
    let k = c.loop-r in
    let p = c.requires in
    let o = k.r * c.args.bs in
    let room : o + c.args.bs ≤ length k.out = row_room c.args.bs refl c.loop-r-test.true p.out-long k.invariant.0 in
    let n = part_length o c.args.bs k.out room in
    let l = get_or c.args.left.now k.r (pos 0) in
    let small = inside-abs 4095 l (p.left_in k.r (omega arith)) in
    simp (to_z-of_z, c.ranges.corner, z-back {z = l} small, n)
    (omega (arith, p.above-long), λ i h. p.above_in i (omega arith), small, inside-abs 4095 c.args.corner p.corner-in)

pub loop-r-preserved : goal.loop-r-preserved
loop-r-preserved c =
    let k = c.loop-r in
    let p = c.requires in
    let a = c.args in
    let o = k.r * a.bs in
    let room : o + a.bs ≤ length k.out = row_room a.bs refl c.loop-r-test.true p.out-long k.invariant.0 in
    let l = get_or a.left.now k.r (pos 0) in
    let small = inside-abs 4095 l (p.left_in k.r (omega arith)) in
    let K = to_z w32 (of_z w32 a.corner) in
    let next : o + a.bs ≡ (k.r + 1) * a.bs = omega arith in (
      omega arith,
      filled_row a.bs k.r o (at a.bs a.above.now a.left.now K) _ _ _ _
          refl room k.invariant.1 c.paeth_row.ensures
          (λ j h. ap (λ z. sample (chosen z (get_or a.above.now j (pos 0)) K)) (z-back small) ∙ ap sample (sym (paeth-is l (get_or a.above.now j (pos 0)) K)))
          ∙ ap (λ n. filled n (rows a.bs (at a.bs a.above.now a.left.now K)) a.out.now) next,
    )

pub returns : goal.returns
returns c =
    let k = c.loop-r in
    let a = c.args in
    let B = a.bs in
    let p = paeth_at B a.above.now a.left.now in
    all-rows B B k.r _ (p (to_z w32 (of_z w32 a.corner))) _ _ refl k.auto.r-end c.loop-r-test.false k.invariant.1
    ∙ ap (λ z. block B B (p z) a.out.now) (to_z-of_z c.ranges.corner)
