-- `z3_by` meets its contract: each strip is written, column by column, and spread into its rows. Assumes nothing.
use Prim.Native.Nat.{◌+◌, ◌*◌}
use native.Mathlib.Omega.{arith}
use mathlib.Core.Path.{◌≡◌, refl, sym, ◌∙◌, ap}
use mir.Facts.{to_z-of_z}
use Rattle.lists.specs.Fill.{filled}
use Rattle.lists.specs.Block.{rows, block}
use Rattle.lists.proofs.Fill.{filled_none}
use Rattle.lists.proofs.Block.{filled-rows}
use Rattle.zone_rows.proofs.z3.z3_by.Answers.Strip.{M, room, reach, stands}
use Rattle.zone_rows.proofs.z3.z3_by.Invariants.{at}
use Rattle.zone_rows.proofs.z3.z3_by.Goals as goal
mod Strip

pub loop-i-init : goal.loop-i-init
loop-i-init c = (omega arith, omega arith, omega arith, refl, refl, sym (filled_none _ _))

pub loop-i-preserved : goal.loop-i-preserved
loop-i-preserved c = (
  omega arith,
  omega arith,
  omega arith,
  omega arith,
  omega arith,
  filled-rows c.args.w 4 (4 * c.loop-i.i) c.loop-i.o (c.loop-i.o + 4 * c.args.w) (at c.args.lum (M c.before.before.before.before.before.before.before.before.before) c.args.dy c.args.list.now) _ _ _ _
      c.loop-i.invariant.1 refl (room c.before.before.before.before.before.before.before.before.before) c.loop-i.invariant.5 c.spread.ensures
      (stands c.before.before.before.before.before.before.before.before.before _ _ c.z3_columns.ensures),
)

pub returns : goal.returns
unfolding block
returns c =
    let i : c.loop-i.i ≡ c.args.n = omega arith in
    let o : c.loop-i.o ≡ 4 * c.args.n * c.args.w = c.loop-i.invariant.1 ∙ ap (λ x. 4 * x * c.args.w) i in
    c.loop-i.invariant.5
    ∙ rw o (λ j. filled (4 * c.args.n * c.args.w) (rows c.args.w (at c.args.lum (to_z-of_z c.ranges.m j) c.args.dy c.args.list.now)) c.args.out.now)
