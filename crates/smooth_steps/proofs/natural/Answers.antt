-- `natural` meets its contract: a number in 0..4095 is that natural number. Assumes nothing.
use mathlib.Core.Path.{ap, subst, sym}
use native.Mathlib.Omega.{arith}
use lib.Dec.{T}
use lib.IntN.{ℤ, nat_abs}
use lib.Signed.{non_neg}
use mir.Facts.{to_z-of_z}
use Rattle.signed.proofs.Range.{inside-abs, inside-pos}
use Rattle.smooth_steps.proofs.natural.Goals as goal

pub overflow_cast-result : goal.overflow_cast-result
overflow_cast-result c =
    let small = inside-abs 4095 c.args.x c.requires in
    rw (to_z-of_z c.ranges.x) (subst (λ (z : ℤ). T (non_neg z)) (sym (inside-pos 4095 c.args.x c.requires)) tt, omega arith)

pub returns : goal.returns
returns c = ap nat_abs (to_z-of_z c.ranges.x)
