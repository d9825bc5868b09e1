-- `split_rows` meets its contract. The invariant: the first j rows are written, o is j w and t is (r0 + j) dx. Assumes nothing.
use Prim.Native.Nat.{◌≤◌, ◌+◌, ◌*◌}
use native.Mathlib.Nat.{mul-le-mul_right}
use native.Mathlib.Omega.{arith}
use mathlib.Core.Path.{◌≡◌, refl, sym, ap}
use lib.ListN.{length}
use mir.Syntax.{w32}
use mir.Val.{to_z, of_z}
use Rattle.lists.proofs.Fill.{filled_none}
use Rattle.lists.proofs.Block.{filled_row}
use Rattle.zones.proofs.split.split_rows.Invariants.{row_of, at}
use Rattle.zones.proofs.split.split_rows.Goals as goal

pub loop-j-init : goal.loop-j-init
loop-j-init c = (omega arith, omega arith, omega arith, refl, sym (filled_none _ _))

pub loop-j-preserved : goal.loop-j-preserved
loop-j-preserved c =
    let room : c.loop-j.o + c.args.w ≤ length c.loop-j.out = omega (arith, mul-le-mul_right c.args.w c.loop-j-test.true) in
    let M = to_z w32 (of_z w32 c.args.m) in
    let t : c.loop-j.t + c.args.dx ≡ (c.args.r0 + c.loop-j.j + 1) * c.args.dx = omega arith in (
      omega arith,
      omega arith,
      omega arith,
      omega arith,
      filled_row c.args.w c.loop-j.j c.loop-j.o (at c.args.strip.now c.args.lum M c.args.top.now c.args.r0 c.args.dx) _ _ _ _
          c.loop-j.invariant.1 room c.loop-j.invariant.4 c.split_row.ensures
          (λ h p. ap (λ z. row_of c.args.strip.now c.args.lum M c.args.top.now c.loop-j.j z h) t),
    )
