-- `z1_by` meets its contract. The invariant: the first r rows are written, o is r w and q is 256 + r dx. Assumes nothing.
use Prim.Native.Nat.{◌≤◌, ◌+◌, ◌*◌, ◌/◌}
use native.Mathlib.Nat.{mul-le-mul_right, mul-le-mul}
use native.Mathlib.Omega.{arith}
use mathlib.Core.Path.{◌≡◌, refl, sym, ◌∙◌, ap}
use lib.ListN.{length, get_or}
use lib.IntN.{pos}
use mir.Syntax.{w32}
use mir.Val.{to_z, of_z}
use mir.Facts.{to_z-of_z}
use Rattle.lists.specs.Fill.{filled}
use Rattle.lists.specs.Block.{rows, sample, block}
use Rattle.lists.proofs.Fill.{filled_none}
use Rattle.lists.proofs.Block.{filled_row}
use Rattle.taps.specs.Interp.{between}
use Rattle.zone_rows.proofs.z1.z1_by.Invariants.{at}
use Rattle.zone_rows.proofs.z1.z1_by.Goals.{In-loop-r}
use Rattle.zone_rows.proofs.z1.z1_by.Goals as goal

module _ (c : In-loop-r) where
  -- the row lies in the output
  room : c.loop-r.o + c.args.w ≤ length c.loop-r.out
  room = omega (arith, mul-le-mul_right c.args.w c.loop-r-test.true)

  q-small : c.loop-r.q + c.args.dx ≤ 256 + 65 * 4096
  q-small =
      let h : c.loop-r.r ≤ 64 = omega arith in
      omega (arith, mul-le-mul h c.requires.w_bound.2)

  -- its entries are there
  reach : (c.loop-r.q + c.args.dx) / 64 + c.args.w + 3 ≤ c.args.h * c.args.dx / 64 + c.args.w + 7
  reach = omega (arith, mul-le-mul_right c.args.dx c.loop-r-test.true)

pub loop-r-init : goal.loop-r-init
loop-r-init c = (omega arith, omega arith, omega arith, refl, sym (filled_none _ _))

pub loop-r-preserved : goal.loop-r-preserved
loop-r-preserved c =
    let M = to_z w32 (of_z w32 c.args.m) in
    let q : c.loop-r.q + c.args.dx ≡ 256 + (c.loop-r.r + 1) * c.args.dx = omega arith in (
      omega arith,
      omega arith,
      q,
      omega arith,
      filled_row c.args.w c.loop-r.r c.loop-r.o (at c.args.lum M c.args.dx c.args.list.now) _ _ _ _
          c.loop-r.invariant.1 (room c.before.before.before.before.before) c.loop-r.invariant.4 c.between.ensures
          (λ j h. ap (λ z. sample (between c.args.lum M (λ t. get_or c.args.list.now t (pos 0)) z)) (omega (arith, q))),
    )

pub returns : goal.returns
unfolding block
returns c =
    let r : c.loop-r.r ≡ c.args.h = omega arith in
    let o : c.loop-r.o ≡ c.args.h * c.args.w = c.loop-r.invariant.1 ∙ ap (λ x. x * c.args.w) r in
    c.loop-r.invariant.4
    ∙ rw o (λ j. filled (c.args.h * c.args.w) (rows c.args.w (at c.args.lum (to_z-of_z c.ranges.m j) c.args.dx c.args.list.now)) c.args.out.now)
