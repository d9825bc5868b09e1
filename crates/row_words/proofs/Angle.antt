-- The angle of a direction with its delta, delta -3 to 3: from 36 to 212. So an angle of zone 1 is at least 36, and one of zone 3 at most 212. Assumes
-- nothing.
use mathlib.Core.Path.{◌≡◌}
use mathlib.Core.Bool.{true}
use mathlib.Core.Logic.{⊎_elim}
use Prim.Native.Nat.{ℕ, ◌≤◌}
use native.Mathlib.Omega.{arith}
use borrow.Author.Tests.{leb-true}
use lib.IntN.{ℤ, pos, nat_abs, ◌*ℤ◌}
use Rattle.signed.proofs.Parts.{up, dn, same, add, sub, abs, one}
use Rattle.signed.proofs.Bound.{abs-times}
use Rattle.row_words.specs.Dir.{degrees_of, angle_of, is_delta, delta_of}
use Rattle.row_words.specs.declared.dir.Dir.{Dir}
use Rattle.row_words.specs.declared.dir.Dir.TheVariants.{Vertical, Horizontal, D45, D135, D113, D157, D203, D67}

pub degrees-range : (d : Dir) → (45 ≤ degrees_of d) × (degrees_of d ≤ 203)
degrees-range Vertical = omega arith
degrees-range Horizontal = omega arith
degrees-range D45 = omega arith
degrees-range D135 = omega arith
degrees-range D113 = omega arith
degrees-range D157 = omega arith
degrees-range D203 = omega arith
degrees-range D67 = omega arith

-- 3 times delta
pub step_small : (delta : ℤ) → nat_abs delta ≤ 3 → nat_abs (pos 3 *ℤ delta) ≤ 9
step_small delta h = omega (arith, abs-times (pos 3) delta)

module _ (d : Dir) (delta : ℤ) (small : nat_abs delta ≤ 3) where
  -- its positive part is the angle, and its negative part is none
  up-range : (dn (angle_of d delta) ≡ 0) × (36 ≤ up (angle_of d delta)) × (up (angle_of d delta) ≤ 212)
  unfolding angle_of
  up-range =
      let deg = degrees-range d in
      let step = step_small delta small in
      let three = abs (pos 3 *ℤ delta) in
      let sum = add (pos (degrees_of d)) (pos 3 *ℤ delta) in
      ⊎_elim (λ h. omega arith) (λ h. absurd (omega arith)) (one (angle_of d delta))

  pub angle-pos : pos (nat_abs (angle_of d delta)) ≡ angle_of d delta
  angle-pos = same _ _ (omega (arith, up-range, abs (angle_of d delta)))

  pub angle-range : (36 ≤ nat_abs (angle_of d delta)) × (nat_abs (angle_of d delta) ≤ 212)
  angle-range = omega (arith, up-range, abs (angle_of d delta))

-- a row's word that stands for a delta stands for one from -3 to 3
pub delta-small : (word : ℕ) → is_delta word ≡ true → nat_abs (delta_of word) ≤ 3
unfolding is_delta delta_of
delta-small word e =
    let most = leb-true word 6 e in
    let less = sub (pos word) (pos 3) in
    let size = abs (delta_of word) in
    ⊎_elim (λ h. omega arith) (λ h. omega arith) (one (delta_of word))
