-- How large the shifted sums of a window are. Assumes nothing.
use mathlib.Core.Path.{◌≡◌}
use mathlib.Core.Bool.{true}
use Prim.Native.Nat.{ℕ, ◌^◌, ◌≤◌, ◌<◌}
use native.Mathlib.Omega.{arith}
use lib.IntN.{ℤ}
use Rattle.numbers.specs.Depth.{most}
use Rattle.numbers.specs.declared.colour.ColourDirection.{ColourDirection}
use Rattle.elimination.specs.Elimination.{SumsIn}
use Rattle.colour_terms.specs.Reference.{is_sizes}
use Rattle.colour_terms.proofs.Granted.{sizes-all}
use Rattle.colour_sums.specs.Sum.{sums_of, count_of, is_readable}
use Rattle.colour_sums.specs.declared.window.Window.{Window}
use Rattle.colour_sums.proofs.Count.{count_most}
use Rattle.colour_sums.proofs.Sizes.{sums-most}
use Rattle.colour_solve.specs.Shift.{reach, shifted_sums}
use Rattle.colour_solve.proofs.Reach.{sums-reach, shifted-sums-most}

-- "Sums are shifted by 22 - 2D - ceil(log2 count), so each ends at or below 2^22.": of every readable window that is not too wide or high, whether or
-- not 14 refuses its sums
pub window-shifted-most : (luma chroma : ℕ → ℕ → ℤ) (w : Window) (direction : ColourDirection) (D : ℕ) → 1 ≤ D
    → is_sizes w.ref_width w.ref_height ≡ true → is_readable (most D) direction luma chroma w ≡ true
    → SumsIn (2 ^ 22) (shifted_sums (reach D (count_of w)) (sums_of D direction luma chroma w))
window-shifted-most luma chroma w direction D one sizes readable =
    let z = sizes-all _ _ sizes in
    let n = count_of w in
    let few : n < 2 ^ 32 = omega (arith, count_most w z.0 z.1) in
    shifted-sums-most (reach D n) _ (sums-reach D n _ few (sums-most D direction luma chroma w one readable))
