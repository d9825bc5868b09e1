-- What elimination reads of the nine sums and of the regulariser: every number as it was given, and the diagonal with the regulariser on it
-- (document 01, Colour parameters). Assumes nothing.
use mathlib.Core.Path.{◌≡◌}
use Prim.Native.Nat.{◌+◌, ◌≤◌, ◌^◌}
use native.Mathlib.Omega.{arith}
use lib.IntN.{ℤ, nat_abs, ◌+ℤ◌}
use mir.Syntax.{w32}
use mir.Val.{SFits}
use Rattle.signed.proofs.Bound.{abs-add, sfits-abs, back-abs}
use Rattle.elimination.specs.declared.Sums.{Sums}
use Rattle.elimination.specs.Elimination.{SumsIn}
use Rattle.fixed_product.proofs.Thru.{thru}

-- a number within m, where m is below 2 ^ 31, is read back as it was
pub same : (z : ℤ) → nat_abs z ≤ 2 ^ 22 + 32 + 2 ^ 30 → thru z ≡ z
same z h = back-abs w32 z (omega arith)

summed : (x reg : ℤ) → nat_abs x ≤ 2 ^ 22 → nat_abs reg ≤ 32 → nat_abs (x +ℤ reg) ≤ 2 ^ 22 + 32
summed x reg h k = omega (arith, abs-add x reg)

-- what is read of the parameters
pub record Read (a : Sums) (reg : ℤ) : Type 0 where
  pub reg= : thru reg ≡ reg
  pub a00= : thru a.a00 ≡ a.a00
  pub a01= : thru a.a01 ≡ a.a01
  pub a02= : thru a.a02 ≡ a.a02
  pub a11= : thru a.a11 ≡ a.a11
  pub a12= : thru a.a12 ≡ a.a12
  pub a22= : thru a.a22 ≡ a.a22
  pub y0= : thru a.y0 ≡ a.y0
  pub y1= : thru a.y1 ≡ a.y1
  pub y2= : thru a.y2 ≡ a.y2
  pub a00-most : nat_abs (a.a00 +ℤ reg) ≤ 2 ^ 22 + 32
  pub a00+ : thru (a.a00 +ℤ reg) ≡ a.a00 +ℤ reg
  pub a11-most : nat_abs (a.a11 +ℤ reg) ≤ 2 ^ 22 + 32
  pub a11+ : thru (a.a11 +ℤ reg) ≡ a.a11 +ℤ reg
  pub a22-most : nat_abs (a.a22 +ℤ reg) ≤ 2 ^ 22 + 32
  pub a22+ : thru (a.a22 +ℤ reg) ≡ a.a22 +ℤ reg

pub read : (a : Sums) (reg : ℤ) → SumsIn (2 ^ 22) a → nat_abs reg ≤ 32 → Read a reg
read a reg p k =
    record {
      reg= = same reg (omega (arith, k));
      a00= = same a.a00 (omega (arith, p.a00));
      a01= = same a.a01 (omega (arith, p.a01));
      a02= = same a.a02 (omega (arith, p.a02));
      a11= = same a.a11 (omega (arith, p.a11));
      a12= = same a.a12 (omega (arith, p.a12));
      a22= = same a.a22 (omega (arith, p.a22));
      y0= = same a.y0 (omega (arith, p.y0));
      y1= = same a.y1 (omega (arith, p.y1));
      y2= = same a.y2 (omega (arith, p.y2));
      a00-most = summed a.a00 reg p.a00 k;
      a00+ = same (a.a00 +ℤ reg) (omega (arith, summed a.a00 reg p.a00 k));
      a11-most = summed a.a11 reg p.a11 k;
      a11+ = same (a.a11 +ℤ reg) (omega (arith, summed a.a11 reg p.a11 k));
      a22-most = summed a.a22 reg p.a22 k;
      a22+ = same (a.a22 +ℤ reg) (omega (arith, summed a.a22 reg p.a22 k));
    }

pub fit : (z : ℤ) → nat_abs z ≤ 2 ^ 22 + 32 → SFits w32 z
fit z h = sfits-abs w32 z (omega arith)
