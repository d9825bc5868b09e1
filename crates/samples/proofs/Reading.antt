-- What a sample's reading is known to be: the sum is at least 0.5 and below 2 ^ 13, and the reading of a sample in 0..M is in 0..M. Assumes nothing.
use mathlib.Core.Path.{◌≡◌}
use mathlib.Core.Bool.{true, false}
use Prim.Native.Nat.{ℕ, ◌+◌, ◌*◌, ◌/◌, ◌≤◌, ◌<◌}
use native.Mathlib.Nat.{div-lt_iff_lt-mul, mul-le-mul_right}
use native.Mathlib.Omega.{arith}
use lib.Dec.{T, lt→ltb}
use lib.IntN.{pos}
use lib.Ieee.{Float, nan, inf, fin, binary32, up, down, add, lt, le, eq, of_int, to_unsigned}
use lib.Ieee.Fits.{down_pos}
use Rattle.numbers.specs.Depth.{is_depth, most}
use Rattle.signed.proofs.Range.{and_both}
use Rattle.samples.specs.Sample.{zero, half, bound, is_sample, reading, Readable}
use Rattle.samples.proofs.Within.{yes}
use Rattle.samples.proofs.Half.{at-most-top, top, depth-top, sum-most, sum-least}

under : (M : ℕ) → M ≤ 4095 → (a d : ℕ) → a * 2 ≤ (2 * M + 1) * d → 0 < d → a * 1 < 8192 * d
under M h a d k p = omega (arith, mul-le-mul_right {m = 2 * M + 1} {n = 8191} d (omega arith))

-- a float at most M + 0.5 is below 2 ^ 13, where M is at most 4095
below : (M : ℕ) → M ≤ 4095 → (x : Float) → T (le x (top M)) → T (lt x bound)
unfolding lt le eq
below M h nan t = absurd t
below M h (inf true) t = tt
below M h (inf false) t = absurd t
below M h (fin true m e) t = lt→ltb 0 (m * up e * 1 + 8192 * down e) (omega (arith, down_pos e))
below M h (fin false m e) t = lt→ltb (m * up e * 1) (8192 * down e) (under M h (m * up e) (down e) (at-most-top M m e t) (down_pos e))

part : (M a d : ℕ) → a * 2 ≤ (2 * M + 1) * d → 0 < d → a / d ≤ M
part M a d k p = let l : a / d < M + 1 = (div-lt_iff_lt-mul p).1 (omega arith) in omega arith

-- its whole part is at most M
cut : (M : ℕ) → (x : Float) → T (le x (top M)) → to_unsigned 32 x ≤ M
unfolding to_unsigned le lt eq
cut M nan t = absurd t
cut M (inf true) t = omega arith
cut M (inf false) t = absurd t
cut M (fin true m e) t = omega arith
cut M (fin false m e) t = omega (arith, part M (m * up e) (down e) (at-most-top M m e t) (down_pos e))

-- the sum of a sample of some depth
module _ (D : ℕ) (v : Float) (d : is_depth D ≡ true) (e : is_sample (pos (most D)) v ≡ true) where
  tests : (le zero v ≡ true) × (le v (of_int binary32 (pos (most D))) ≡ true)
  unfolding is_sample
  tests = and_both (le zero v) (le v (of_int binary32 (pos (most D)))) e

  sum_of : T (le (add binary32 v half) (top (most D)))
  sum_of = sum-most v (most D) (depth-top D d) (yes tests.0) (yes tests.1)

  sum-from : T (le half (add binary32 v half))
  sum-from = sum-least v (most D) (depth-top D d) (yes tests.0) (yes tests.1)

pub sum-within : (v : Float) → Readable v → T (le half (add binary32 v half)) × T (lt (add binary32 v half) bound)
sum-within v r = (
  sum-from r.depth v r.is r.in-range,
  below (most r.depth) (depth-top r.depth r.is).0 (add binary32 v half) (sum_of r.depth v r.is r.in-range),
)

-- the reading of a sample in 0..M is in 0..M
pub reading-most : (D : ℕ) (v : Float) → is_depth D ≡ true → is_sample (pos (most D)) v ≡ true → reading v ≤ most D
unfolding reading
reading-most D v d e = cut (most D) (add binary32 v half) (sum_of D v d e)

pub reading_small : (v : Float) → Readable v → reading v ≤ 4095
reading_small v r = omega (arith, reading-most r.depth v r.is r.in-range, (depth-top r.depth r.is).0)
