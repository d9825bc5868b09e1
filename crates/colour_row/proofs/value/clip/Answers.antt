-- `clip` meets its contract: each answer is rewritten by the tests that led to it. Assumes nothing.
use mathlib.Core.Path.{◌≡◌}
use mathlib.Core.Bool.{true, false}
use lib.IntN.{pos}
use lib.Signed.{lt_z}
use mir.Facts.{to_z-of_z}
use Rattle.colour_row.specs.Sample.{clip_to}
use Rattle.colour_row.proofs.value.clip.Goals as goal

pub returns-then-x-lt0 : goal.returns-then-x-lt0
unfolding clip_to
returns-then-x-lt0 c =
    let h : lt_z c.args.x (pos 0) ≡ true = simp (to_z-of_z, c.ranges.x) at c.if-x-lt0.true in
    simp h

pub returns-then-m-x : goal.returns-then-m-x
unfolding clip_to
returns-then-m-x c =
    let s = c.before.before in
    let h : lt_z s.args.x (pos 0) ≡ false = simp (to_z-of_z, s.ranges.x) at c.if-x-lt0.false in
    let k : lt_z s.args.m s.args.x ≡ true = simp (to_z-of_z, s.ranges.x, s.ranges.m) at c.if-m-x.true in
    simp (h, k, to_z-of_z, s.ranges.m)

pub returns-else-m-x : goal.returns-else-m-x
unfolding clip_to
returns-else-m-x c =
    let s = c.before.before in
    let h : lt_z s.args.x (pos 0) ≡ false = simp (to_z-of_z, s.ranges.x) at c.if-x-lt0.false in
    let k : lt_z s.args.m s.args.x ≡ false = simp (to_z-of_z, s.ranges.x, s.ranges.m) at c.if-m-x.false in
    simp (h, k, to_z-of_z, s.ranges.x)
