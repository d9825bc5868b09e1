-- `z2_by` meets its contract. The invariant: the first i strips are written, r0 is 4 i and o is 4 i w. Assumes nothing.
use Prim.Native.Nat.{◌≤◌, ◌+◌, ◌*◌}
use native.Mathlib.Nat.{mul-le-mul_right}
use native.Mathlib.Omega.{arith}
use mathlib.Core.Path.{◌≡◌, refl, sym, ◌∙◌, ap}
use lib.ListN.{length}
use mir.Syntax.{w32}
use mir.Val.{to_z, of_z}
use mir.Facts.{to_z-of_z}
use Rattle.lists.specs.Fill.{filled}
use Rattle.lists.specs.Block.{rows, block}
use Rattle.lists.proofs.Fill.{filled_none}
use Rattle.lists.proofs.Block.{filled-rows}
use Rattle.zones.proofs.z2.z2_by.Invariants.{at}
use Rattle.zones.proofs.z2.z2_by.Goals.{In-loop-i}
use Rattle.zones.proofs.z2.z2_by.Goals as goal

module _ (c : In-loop-i) where
  -- the strip lies in the output
  room : c.loop-i.o + 4 * c.args.w ≤ length c.loop-i.out
  room = omega (arith, mul-le-mul_right c.args.w c.loop-i-test.true)

pub loop-i-init : goal.loop-i-init
loop-i-init c = (omega arith, omega arith, omega arith, refl, refl, sym (filled_none _ _))

pub loop-i-preserved : goal.loop-i-preserved
loop-i-preserved c =
    let M = to_z w32 (of_z w32 c.args.m) in (
      omega arith,
      omega arith,
      omega arith,
      omega arith,
      omega arith,
      filled-rows c.args.w 4 (4 * c.loop-i.i) c.loop-i.o (c.loop-i.o + 4 * c.args.w) (at c.args.lum M c.args.dx c.args.dy c.args.top.now c.args.left.now) _ _ _ _
          c.loop-i.invariant.2 refl (room c.before.before.before.before.before.before.before.before) c.loop-i.invariant.5 c.z2_strip.ensures
          (λ j h p q. ap (λ r. at c.args.lum M c.args.dx c.args.dy c.args.top.now c.args.left.now (r + j) h) c.loop-i.invariant.1),
    )

pub returns : goal.returns
unfolding block
returns c =
    let i : c.loop-i.i ≡ c.args.n = omega arith in
    let o : c.loop-i.o ≡ 4 * c.args.n * c.args.w = c.loop-i.invariant.2 ∙ ap (λ x. 4 * x * c.args.w) i in
    c.loop-i.invariant.5
    ∙ rw o (λ j. filled (4 * c.args.n * c.args.w) (rows c.args.w (at c.args.lum (to_z-of_z c.ranges.m j) c.args.dx c.args.dy c.args.top.now c.args.left.now)) c.args.out.now)
