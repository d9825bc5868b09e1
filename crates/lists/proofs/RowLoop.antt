-- A loop that writes a block row after row: before row r it stands at o = r w, and the first r rows are written. Row r lies in the output, and after
-- the last row the block is written. Assumes nothing.
use mathlib.Core.Path.{◌≡◌, ◌∙◌, ap}
use mathlib.Core.List.{List}
use Prim.Native.Nat.{ℕ, ◌+◌, ◌*◌, ◌≤◌, ◌<◌}
use native.Mathlib.Nat.{mul-le-mul_right}
use native.Mathlib.Omega.{arith}
use lib.IntN.{ℤ}
use lib.Ieee.{Float}
use Rattle.lists.specs.Fill.{filled}
use Rattle.lists.specs.Block.{rows, sample, block}

-- in an output that had m entries and has n
pub row_room : (w : ℕ) {h r o m n : ℕ} → o ≡ r * w → r < h → h * w ≤ m → n ≡ m → o + w ≤ n
row_room w e l long same = omega (arith, e, mul-le-mul_right w l, long, same)

pub all-rows : (w h r o : ℕ) (p : ℕ → ℕ → ℤ) (xs ys : List Float) → o ≡ r * w → r ≤ h → h ≤ r → ys ≡ filled o (rows w (λ i c. sample (p i c))) xs
    → ys ≡ block w h p xs
unfolding block
all-rows w h r o p xs ys e most least done =
    let last : r ≡ h = omega arith in
    done ∙ ap (λ n. filled n (rows w (λ i c. sample (p i c))) xs) (e ∙ ap (λ n. n * w) last)
