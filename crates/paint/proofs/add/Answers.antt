-- `add` meets its contract: the prediction is a whole number, so the cast keeps it, nothing wraps, and the last cast is exact. Assumes nothing.
use native.Mathlib.Omega.{arith}
use mathlib.Core.Path.{◌≡◌, ◌∙◌, ap}
use Prim.Native.Nat.{◌+◌, ◌≤◌}
use lib.IntN.{ℤ, pos, negsuc, nat_abs, ◌+ℤ◌}
use lib.Ieee.{to_signed}
use lib.Signed.{mag}
use mir.Syntax.{w16, w32}
use mir.Val.{SFits}
use mir.Facts.{to_z-of_z}
use Rattle.signed.proofs.Bound.{abs-add, sfits-abs, back, back-abs, widens, widened, exact}
use Rattle.lists.specs.Block.{sample}
use Rattle.taps.specs.Interp.{clip}
use Rattle.taps.proofs.Laws.{clip-small}
use Rattle.paint.proofs.Cast.{whole-cast}
use Rattle.paint.proofs.add.Goals as goal
use Rattle.paint.proofs.add.Lts as lts
use Rattle.paint.proofs.add.Reads as reads
use Rattle.paint.proofs.add.Tie as tie

abbrev At-Start : Type 0
At-Start = lts.Start tie.the-claims reads.Pre reads.Post

abbrev At-After-clipped : Type 0
At-After-clipped = lts.After-clipped tie.the-claims reads.Pre reads.Post

abs_mag : (z : ℤ) → nat_abs z ≤ mag z + 1
abs_mag (pos n) = omega arith
abs_mag (negsuc n) = omega arith

module _ (s : At-Start) where
  abbrev v : ℤ
  v = to_signed 31 s.args.v

  abbrev d : ℤ
  d = s.args.difference

  v-small : nat_abs v ≤ 4095
  v-small = rw (whole-cast s.args.v s.requires.0).1 s.requires.0.small

  v-back : SFits w32 v
  v-back = sfits-abs w32 v (omega (arith, v-small))

  sum : SFits w32 (v +ℤ d)
  sum = sfits-abs w32 (v +ℤ d) (omega (arith, abs-add v d, v-small, abs_mag d, s.ranges.difference.sfits))

module _ (c : At-After-clipped) where
  abbrev t : At-Start
  t = c.before.before

  is : c.clipped.result ≡ clip t.args.m (v t +ℤ d t)
  is =
      simp (back w32 (v-back t), widened w32 w16 {z = d t} tt t.ranges.difference, back w32 (sum t), to_z-of_z, t.ranges.m) at c.clipped.ensures

  small : nat_abs c.clipped.result ≤ 4095
  small = rw is (clip-small 4095 t.args.m _ t.requires.1)

pub float_to_int-v : goal.float_to_int-v
float_to_int-v c = (whole-cast c.args.v c.requires.0).0

pub overflow_cast-difference : goal.overflow_cast-difference
overflow_cast-difference c = widens w32 w16 {z = d c.before.before} tt c.ranges.difference

pub overflow_add-v : goal.overflow_add-v
overflow_add-v c = let s = c.before.before in simp (back w32 (v-back s), widened w32 w16 {z = d s} tt s.ranges.difference) (sum s)

pub int_to_float-result : goal.int_to_float-result
int_to_float-result c =
    let h = small c.before in
    rw (back-abs w32 c.clipped.result (omega arith)) (exact c.clipped.result (omega arith))

pub returns : goal.returns
returns c =
    let h = small c.before in
    ap sample (back-abs w32 c.clipped.result (omega arith) ∙ is c.before)
