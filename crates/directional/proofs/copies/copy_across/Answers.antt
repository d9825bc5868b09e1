-- `copy_across` meets its contract. Assumes nothing.
use Prim.Native.Nat.{◌≤◌, ◌+◌, ◌*◌}
use native.Mathlib.Nat.{mul-le-mul_right}
use native.Mathlib.Omega.{arith}
use mathlib.Core.Path.{◌≡◌, refl, sym, ◌∙◌, ap}
use lib.ListN.{length, get_or}
use lib.IntN.{ℤ, pos}
use mir.Syntax.{w32}
use mir.Val.{to_z, of_z}
use mathlib.Core.Bool.{true}
use Rattle.signed.specs.Range.{inside}
use Rattle.signed.proofs.Bound.{back-abs}
use Rattle.signed.proofs.Range.{inside-abs}
use Rattle.lists.specs.Fill.{filled}
use Rattle.lists.specs.Block.{rows, sample, block}
use Rattle.lists.proofs.Fill.{filled_none}
use Rattle.lists.proofs.Block.{filled_row}
use Rattle.lists.proofs.RowLoop.{all-rows}
use Rattle.directional.proofs.copies.copy_across.Invariants.{at}
use Rattle.directional.proofs.copies.copy_across.Goals as goal

-- an entry is a sample
read-back : (z : ℤ) → inside (pos 4095) z ≡ true → to_z w32 (of_z w32 z) ≡ z
read-back z h = back-abs w32 z (omega (arith, inside-abs 4095 z h))

pub loop-r-init : goal.loop-r-init
loop-r-init c = let none : 0 * c.args.w ≡ 0 = omega arith in (refl, sym (rw none (filled_none _ _)))

pub fill_row-requires : goal.fill_row-requires
fill_row-requires c =
    let i = c.requires.1 c.loop-r.r (omega arith) in
    rw (read-back (get_or c.args.left.now c.loop-r.r (pos 0)) i) (inside-abs 4095 (get_or c.args.left.now c.loop-r.r (pos 0)) i)

pub loop-r-preserved : goal.loop-r-preserved
loop-r-preserved c =
    let room : c.loop-r.r * c.args.w + c.args.w ≤ length c.loop-r.out = omega (arith, mul-le-mul_right c.args.w c.loop-r-test.true) in
    let next : c.loop-r.r * c.args.w + c.args.w ≡ (c.loop-r.r + 1) * c.args.w = omega arith in (
      omega arith,
      filled_row c.args.w c.loop-r.r _ (at c.args.left.now) _ _ _ _ refl room c.loop-r.invariant.1 c.fill_row.ensures (λ j l. ap sample (read-back _ (c.requires.1 c.loop-r.r (omega arith))))
          ∙ ap (λ n. filled n (rows c.args.w (at c.args.left.now)) c.args.out.now) next,
    )

pub returns : goal.returns
returns c = all-rows c.args.w c.args.h c.loop-r.r _ _ _ _ refl c.loop-r.auto.r-end c.loop-r-test.false c.loop-r.invariant.1
