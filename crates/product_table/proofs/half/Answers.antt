-- `half` meets its contract. Assumes nothing.
use mathlib.Core.Path.{◌≡◌, refl}
use mathlib.Core.Bool.{true, false, true≢false}
use native.Mathlib.Omega.{arith}
use lib.IntN.{ℤ, pos, negsuc}
use lib.Signed.{lt_z}
use mir.Facts.{to_z-of_z}
use Rattle.signed.proofs.Order.{lt_z-true}
use Rattle.product_table.specs.Wide.{half_of}
use Rattle.product_table.proofs.half.Goals as goal

down : (a : ℤ) → lt_z a (pos 0) ≡ true → pos 32767 ≡ half_of a
down (pos n) e = absurd (omega (arith, lt_z-true (pos n) (pos 0) e))
down (negsuc n) e = refl

up : (a : ℤ) → lt_z a (pos 0) ≡ false → pos 32768 ≡ half_of a
up (pos n) e = refl
up (negsuc n) e = absurd (true≢false e)

pub returns-then-a-lt0 : goal.returns-then-a-lt0
returns-then-a-lt0 c = let s = c.before in down s.args.a (simp (to_z-of_z, s.ranges.a) at c.if-a-lt0.true)

pub returns-else-a-lt0 : goal.returns-else-a-lt0
returns-else-a-lt0 c = let s = c.before in up s.args.a (simp (to_z-of_z, s.ranges.a) at c.if-a-lt0.false)
