-- `away` meets its contract: what is added is small, and its shift is the definition's. Assumes nothing.
use mathlib.Core.Path.{◌≡◌}
use Prim.Native.Nat.{ℕ, ◌+◌, ◌-◌, ◌*◌, ◌%◌, ◌^◌, ◌≤◌}
use native.Mathlib.Omega.{arith}
use lib.IntN.{ℤ, pos, ◌+ℤ◌}
use lib.Signed.{shr_z}
use mir.Syntax.{w32}
use mir.Val.{SFits}
use Rattle.signed.proofs.Bound.{Bound, b-abs, b-pos, b-add, b-shr, b-fits, back, back-pos}
use Rattle.signed.proofs.Naturals.{pow-le}
use Rattle.fixed_product.proofs.Shift.{shr-fits}
use Rattle.fixed_product.proofs.Rounding.{one_shl}
use Rattle.fixed_product.proofs.Away.{sign_small, away-is}
use Rattle.fixed_product.proofs.product.away.Goals as goal

module _ (c : goal.Start) where
  abbrev p : ℤ
  p = c.args.p

  abbrev k : ℕ
  k = c.args.k

  half : (1 * 2 ^ (k - 1)) % 2 ^ 32 ≡ 2 ^ (k - 1)
  half = one_shl (k - 1) (omega (arith, c.requires))

  half-most : 2 ^ (k - 1) ≤ 2 ^ 28
  half-most = pow-le {i = k - 1} {j = 28} (omega (arith, c.requires))

  two : Bound (2 ^ 30 + 2 ^ 28) (p +ℤ pos (2 ^ (k - 1)))
  two = b-add (b-abs {m = 2 ^ 30} {z = p} c.requires.0) (b-pos {m = 2 ^ 28} (2 ^ (k - 1)) half-most)

  three : Bound (2 ^ 30 + 2 ^ 28 + 1) (p +ℤ pos (2 ^ (k - 1)) +ℤ shr_z p (2 ^ 31))
  three = b-add two (b-abs {m = 1} {z = shr_z p (2 ^ 31)} (sign_small p c.requires.0))

  sign : SFits w32 (shr_z p (2 ^ 31))
  sign = shr-fits p (2 ^ 31) c.ranges.p

pub overflow_cast-result : goal.overflow_cast-result
overflow_cast-result c = simp (half c) (record { sfits = omega (arith, half-most c) })

pub overflow_add-result : goal.overflow_add-result
overflow_add-result c = simp (back w32 c.ranges.p, half c, back-pos w32 (2 ^ (k c - 1)) (omega (arith, half-most c))) (b-fits w32 (two c) tt)

pub overflow_add-result-2 : goal.overflow_add-result-2
overflow_add-result-2 c =
    simp (back w32 c.ranges.p, half c, back-pos w32 (2 ^ (k c - 1)) (omega (arith, half-most c)), back w32 (b-fits w32 (two c) tt), back w32 (sign c)) (b-fits w32 (three c) tt)

pub returns : goal.returns
returns c =
    simp (
      back w32 c.ranges.p,
      half c,
      back-pos w32 (2 ^ (k c - 1)) (omega (arith, half-most c)),
      back w32 (b-fits w32 (two c) tt),
      back w32 (sign c),
      back w32 (b-fits w32 (three c) tt),
      back w32 (b-fits w32 (b-shr (2 ^ k c) (three c)) tt),
    ) (away-is (p c) (k c) c.requires.0 c.requires.1 (omega (arith, c.requires)))
