-- What `paeth_single` works out of left l, above t and corner k: x, y, their sum, and the choices by the three distances. Assumes nothing.
use native.Mathlib.Omega.{arith}
use mathlib.Core.Bool.{Bool, cond}
use lib.Dec.{leb}
use mir.Syntax.{w32}
use mir.Val.{SFits}
use lib.IntN.{ℤ, pos, nat_abs, ◌+ℤ◌, ◌-ℤ◌}
use Prim.Native.Nat.{◌≤◌}
use Rattle.signed.proofs.Bound.{abs-add, abs-sub, sfits-abs}

module _ (l t k : ℤ) where
  -- x, y and their sum
  abbrev pub x : ℤ
  x = t -ℤ k

  abbrev pub y : ℤ
  y = l -ℤ k

  module _ (p : (nat_abs l ≤ 4095) × (nat_abs t ≤ 4095) × (nat_abs k ≤ 4095)) where
    pub x_fits : SFits w32 x
    x_fits = sfits-abs w32 x (omega (arith, abs-sub t k))

    pub y-fits : SFits w32 y
    y-fits = sfits-abs w32 y (omega (arith, abs-sub l k))

    pub sum-small : nat_abs (x +ℤ y) ≤ 16380
    sum-small = omega (arith, abs-add x y, abs-sub t k, abs-sub l k)

    pub sum_fits : SFits w32 (x +ℤ y)
    sum_fits = sfits-abs w32 (x +ℤ y) (omega (arith, sum-small))

  -- which is nearer, and the choices
  abbrev pub left-top : Bool
  left-top = leb (nat_abs x) (nat_abs y)

  abbrev pub left-corner : Bool
  left-corner = leb (nat_abs x) (nat_abs (x +ℤ y))

  abbrev pub top-corner : Bool
  top-corner = leb (nat_abs y) (nat_abs (x +ℤ y))

  abbrev pub other-is : ℤ
  other-is = cond top-corner x (pos 0)

  abbrev pub nearest-is : ℤ
  nearest-is = cond left-corner y other-is
