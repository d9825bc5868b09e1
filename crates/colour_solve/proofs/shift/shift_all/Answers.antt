-- `shift_all` meets its contract. Assumes nothing.
use mathlib.Core.Path.{◌≡◌, ◌∙◌}
use Prim.Native.Nat.{ℕ, ◌^◌, ◌<◌}
use lib.IntN.{ℤ, pos}
use lib.Signed.{mag}
use mir.Syntax.{w32}
use mir.Val.{to_z, of_z}
use Rattle.signed.proofs.Bound.{back}
use Rattle.colour_solve.specs.Shift.{shifted_sums}
use Rattle.colour_solve.proofs.shift.shift_all.Goals as goal

-- a number that a call gave, read back from its bits
got : (n : ℕ) (r : ℤ) → mag r < 2 ^ 31 → r ≡ pos n → to_z w32 (of_z w32 r) ≡ pos n
got n r ok is = back w32 {z = r} (record { sfits = ok }) ∙ is

pub returns : goal.returns
unfolding shifted_sums
returns c =
    λ j. record {
      a00 = (let k = c.shifted in got _ k.result k.type_inv k.ensures) j;
      a01 = (let k = c.shifted-2 in got _ k.result k.type_inv k.ensures) j;
      a02 = (let k = c.shifted-3 in got _ k.result k.type_inv k.ensures) j;
      a11 = (let k = c.shifted-4 in got _ k.result k.type_inv k.ensures) j;
      a12 = (let k = c.shifted-5 in got _ k.result k.type_inv k.ensures) j;
      a22 = (let k = c.shifted-6 in got _ k.result k.type_inv k.ensures) j;
      y0 = (let k = c.shifted-7 in got _ k.result k.type_inv k.ensures) j;
      y1 = (let k = c.shifted-8 in got _ k.result k.type_inv k.ensures) j;
      y2 = (let k = c.shifted-9 in got _ k.result k.type_inv k.ensures) j;
    }
