-- The numbers of requests (iv) and (v) fit, and what follows from that. Assumes nothing.
use mathlib.Core.Path.{◌≡◌, refl, ap}
use mathlib.Core.Bool.{true}
use Prim.Native.Nat.{ℕ, ◌+◌, ◌-◌, ◌*◌, ◌/◌, ◌%◌, ◌≤◌}
use lib.Dec.{eqb, leb}
use borrow.Author.Tests.{leb-true}
use Rattle.signed.proofs.Range.{and_both}
use Rattle.block_image.specs.Rules.{is_whole}
use native.Mathlib.Nat.{mul-le-mul_left, mul-le-mul_right}
use native.Mathlib.Omega.{arith}
use Rattle.block_image.specs.Fits.{Fits}
use Rattle.block_image.specs.Image.{plan_format, tower_format}
use Rattle.block_image.specs.declared.format.Format.{Format}

pub plan-fits : Fits plan_format
plan-fits = record { fills = refl; some-rows = omega arith; some_words = omega arith; reach = omega arith; few = omega arith }

pub tower-fits : Fits tower_format
tower-fits = record { fills = refl; some-rows = omega arith; some_words = omega arith; reach = omega arith; few = omega arith }

-- used and unused rows
pub rows_apart : (F : Format) (used : ℕ) → used ≤ F.rows → used * F.words + (F.rows - used) * F.words ≡ F.rows * F.words
rows_apart F used h =
    let d : F.rows ≡ used + (F.rows - used) = omega arith in
    let e : F.rows * F.words ≡ (used + (F.rows - used)) * F.words = ap (λ (x : ℕ). x * F.words) d in
    omega arith

pub whole-few : (F : Format) (n : ℕ) → is_whole F n ≡ true → n / 512 ≤ F.most
unfolding is_whole
whole-few F n e = leb-true _ _ (and_both (eqb (n % 512) 0) (leb (n / 512) F.most) e).1

pub words-most : (F : Format) → Fits F → F.words ≤ 508
words-most F fit = omega (arith, fit.fills, mul-le-mul_right {m = 1} {n = F.rows} F.words fit.some-rows)

pub rows-most : (F : Format) → Fits F → F.rows ≤ 508
rows-most F fit = omega (arith, fit.fills, mul-le-mul_left {m = 1} {n = F.words} F.rows fit.some_words)
