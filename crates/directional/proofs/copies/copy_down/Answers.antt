-- `copy_down` meets its contract. Assumes nothing.
use Prim.Native.Nat.{◌≤◌, ◌+◌, ◌*◌}
use native.Mathlib.Nat.{mul-le-mul_right}
use native.Mathlib.Omega.{arith}
use mathlib.Core.Path.{◌≡◌, refl, sym, ◌∙◌, ap}
use lib.ListN.{length}
use Rattle.lists.specs.Fill.{filled}
use Rattle.lists.specs.Block.{rows, block}
use Rattle.lists.proofs.Fill.{filled_none}
use Rattle.lists.proofs.Block.{filled_row}
use Rattle.lists.proofs.RowLoop.{all-rows}
use Rattle.directional.proofs.copies.copy_down.Invariants.{at}
use Rattle.directional.proofs.copies.copy_down.Goals as goal

pub loop-r-init : goal.loop-r-init
loop-r-init c = let none : 0 * c.args.w ≡ 0 = omega arith in (refl, sym (rw none (filled_none _ _)))

pub loop-r-preserved : goal.loop-r-preserved
loop-r-preserved c =
    let room : c.loop-r.r * c.args.w + c.args.w ≤ length c.loop-r.out = omega (arith, mul-le-mul_right c.args.w c.loop-r-test.true) in
    let next : c.loop-r.r * c.args.w + c.args.w ≡ (c.loop-r.r + 1) * c.args.w = omega arith in (
      omega arith,
      filled_row c.args.w c.loop-r.r _ (at c.args.above.now) _ _ _ _ refl room c.loop-r.invariant.1 c.copy_row.ensures (λ j l. refl)
          ∙ ap (λ n. filled n (rows c.args.w (at c.args.above.now)) c.args.out.now) next,
    )

pub returns : goal.returns
returns c = all-rows c.args.w c.args.h c.loop-r.r _ _ _ _ refl c.loop-r.auto.r-end c.loop-r-test.false c.loop-r.invariant.1
