-- The loops of `left_columns`: the walk's invariant, that the first c columns are written, o is 4 c, q is c dy before the strip's end, some row of the
-- strip is not passed yet, and the strip's last row takes the c columns from the left; and a column that some row takes from the left. Assumes nothing.
use Prim.Native.Nat.{◌≤◌, ◌<◌, ◌+◌, ◌-◌, ◌*◌, ◌/◌}
use native.Mathlib.Nat.{mul-le-mul_right}
use native.Mathlib.Omega.{arith}
use mathlib.Core.Path.{◌≡◌, ◌∙◌}
use lib.ListN.{length}
use mir.Facts.{to_z-of_z}
use Rattle.lists.specs.Fill.{filled}
use Rattle.lists.specs.Block.{rows}
use Rattle.zone_spec.proofs.Inside.{left-inside}
use Rattle.zones.proofs.walk.left_columns.Invariants.{at}
use Rattle.zones.proofs.walk.left_columns.Goals.{At-walk, After-loop-y}

-- what the walk has written
module _ (k : At-walk) where
  pub written : k.walk.strip ≡ filled (k.walk.c * 4) (rows 4 (at k.args.lum k.args.m k.args.dy k.args.r0 k.args.left.now)) k.args.strip.now
  written =
      k.walk.invariant.5
      ∙ (λ j. filled (k.walk.invariant.1 j) (rows 4 (at k.args.lum (to_z-of_z k.ranges.m j) k.args.dy k.args.r0 k.args.left.now)) k.args.strip.now)

-- a column that some row of the strip takes from the left
module _ (l : After-loop-y) where
  -- the strip's last row takes it from the left too
  pub reached : 64 * (l.walk.c + 1) < (l.args.r0 + 4) * l.args.dx
  reached =
      let y : l.loop-y.y + 1 ≤ l.args.r0 + 4 = omega arith in
      omega (arith, mul-le-mul_right l.args.dx y)

  -- it lies inside the left edge
  inside-left : (l.walk.c + 1) * l.args.dy < 64 * (l.loop-y.y + 1)
  inside-left = left-inside l.loop-y.y l.walk.c l.args.dx l.args.dy l.requires.w_bound.4 l.requires.w_bound.5 (omega arith)

  pub enough : l.args.dy ≤ l.walk.q
  enough = omega (arith, inside-left)

  pub room : l.walk.o + 4 ≤ length l.walk.strip
  room = omega arith

  -- its entries are there
  pub reach : (l.walk.q - l.args.dy) / 64 + 4 + 3 ≤ l.args.r0 + 10
  reach = omega (arith, enough)

  pub next : l.walk.q - l.args.dy + (l.walk.c + 1) * l.args.dy ≡ 64 * (l.args.r0 + 4)
  next = omega (arith, enough)

  pub place : l.walk.q - l.args.dy ≡ 64 * (l.args.r0 + 4) - (l.walk.c + 1) * l.args.dy
  place = omega (arith, next)
