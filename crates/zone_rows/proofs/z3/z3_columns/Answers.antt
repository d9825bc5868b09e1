-- `z3_columns` meets its contract. The invariant: the first c columns are written, o is 4 c and q is from + c dy. Assumes nothing.
use Prim.Native.Nat.{◌≤◌, ◌+◌, ◌*◌, ◌/◌}
use native.Mathlib.Nat.{mul-le-mul_right, mul-le-mul}
use native.Mathlib.Omega.{arith}
use mathlib.Core.Path.{◌≡◌, refl, sym, ◌∙◌, ap}
use lib.ListN.{length, get_or}
use lib.IntN.{pos}
use mir.Syntax.{w32}
use mir.Val.{to_z, of_z}
use mir.Facts.{to_z-of_z}
use Rattle.lists.specs.Fill.{filled}
use Rattle.lists.specs.Block.{rows, sample}
use Rattle.lists.proofs.Fill.{filled_none}
use Rattle.lists.proofs.Block.{filled_row, part_length}
use Rattle.taps.specs.Interp.{between}
use Rattle.zone_rows.proofs.z3.z3_columns.Invariants.{at}
use Rattle.zone_rows.proofs.z3.z3_columns.Goals.{In-loop-c}
use Rattle.zone_rows.proofs.z3.z3_columns.Goals as goal

module _ (c : In-loop-c) where
  -- the column lies in the strip
  room : c.loop-c.o + 4 ≤ length c.loop-c.strip
  room = omega arith

  q-small : c.loop-c.q + c.args.dy ≤ 8192 + 65 * 4096
  q-small =
      let h : c.loop-c.c ≤ 64 = omega arith in
      omega (arith, mul-le-mul h c.requires.w_bound.1)

  -- its entries are there
  reach : (c.loop-c.q + c.args.dy) / 64 + 4 + 3 ≤ (c.args.from + c.args.w * c.args.dy) / 64 + 7
  reach = omega (arith, mul-le-mul_right c.args.dy c.loop-c-test.true)

pub loop-c-init : goal.loop-c-init
loop-c-init c = (omega arith, omega arith, omega arith, refl, sym (filled_none _ _))

pub between-requires : goal.between-requires
between-requires c =
    let l = part_length c.loop-c.o 4 c.loop-c.strip (room c.before) in
    simp (to_z-of_z, c.ranges.m, l)
    record { row_in_bounds = (omega (arith, reach c.before, c.requires.holds.0), λ i h. c.requires.holds.1 i (omega (arith, reach c.before))); filters_value = (c.requires.w_bound.5, c.requires.w_bound.4) }

pub loop-c-preserved : goal.loop-c-preserved
loop-c-preserved c =
    let M = to_z w32 (of_z w32 c.args.m) in
    let q : c.loop-c.q + c.args.dy ≡ c.args.from + (c.loop-c.c + 1) * c.args.dy = omega arith in (
      omega arith,
      omega arith,
      q,
      omega arith,
      filled_row 4 c.loop-c.c c.loop-c.o (at c.args.lum M c.args.dy c.args.from c.args.list.now) _ _ _ _
          c.loop-c.invariant.1 (room c.before.before.before.before.before) c.loop-c.invariant.4 c.between.ensures
          (λ j h. ap (λ z. sample (between c.args.lum M (λ t. get_or c.args.list.now t (pos 0)) (z + 64 * j))) q),
    )

pub returns : goal.returns
returns c =
    let o : c.loop-c.o ≡ c.args.w * 4 = omega arith in
    c.loop-c.invariant.4
    ∙ rw o (λ j. filled (c.args.w * 4) (rows 4 (at c.args.lum (to_z-of_z c.ranges.m j) c.args.dy c.args.from c.args.list.now)) c.args.strip.now)
