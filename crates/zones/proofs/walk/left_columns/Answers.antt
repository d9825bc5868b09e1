-- `left_columns` meets its contract: each column of the walk is written, and where the walk is left no row of the strip is still in its left part.
-- Assumes nothing.
use Prim.Native.Nat.{ℕ, ◌≤◌, ◌+◌, ◌*◌}
use native.Mathlib.Omega.{arith}
use mathlib.Core.Path.{◌≡◌, refl, sym, ◌∙◌, ap}
use lib.ListN.{get_or}
use lib.IntN.{pos}
use mir.Syntax.{w32}
use mir.Val.{to_z, of_z}
use mir.Facts.{to_z-of_z}
use Rattle.lists.specs.Block.{sample}
use Rattle.lists.proofs.Fill.{filled_none}
use Rattle.lists.proofs.Block.{filled_row, part_length}
use Rattle.taps.specs.Interp.{between}
use Rattle.zones.proofs.walk.left_columns.Answers.Column.{written, reached, enough, room, reach, next, place}
use Rattle.zones.proofs.walk.left_columns.Invariants.{at}
use Rattle.zones.proofs.walk.left_columns.Goals as goal
mod Column

pub walk-init : goal.walk-init
walk-init c = (omega arith, omega arith, omega arith, omega arith, refl, sym (filled_none _ _), omega arith)

pub overflow_sub-q : goal.overflow_sub-q
overflow_sub-q c = enough c

pub walk-preserved : goal.walk-preserved
walk-preserved c =
    let M = to_z w32 (of_z w32 c.args.m) in (
      omega arith,
      omega arith,
      next c.before.before.before.before.before,
      omega arith,
      omega arith,
      filled_row 4 c.walk.c c.walk.o (at c.args.lum M c.args.dy c.args.r0 c.args.left.now) _ _ _ _
          c.walk.invariant.1 (room c.before.before.before.before.before) c.walk.invariant.5 c.between.ensures
          (λ j h. ap (λ z. sample (between c.args.lum M (λ t. get_or c.args.left.now t (pos 0)) (z + 64 * j))) (place c.before.before.before.before.before)),
      reached c.before.before.before.before.before,
    )

pub returns-after-walk : goal.returns-after-walk
returns-after-walk c = record { value = omega arith; strip_after = written c.before }

pub returns-then-y-end : goal.returns-then-y-end
returns-then-y-end c =
    let y : c.args.r0 + 4 ≡ c.loop-y.y + 1 = omega arith in
    let past : (c.args.r0 + 4) * c.args.dx ≤ 64 * (c.walk.c + 1) = omega (arith, ap (λ (x : ℕ). x * c.args.dx) y) in
    record { value = omega (arith, past); strip_after = written c.before.before.before.before }
