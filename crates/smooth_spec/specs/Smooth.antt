-- "smooth_v", "smooth_h", "smooth" (document 01, The predictors). "`>>` rounds toward minus infinity."
use Rattle.std.specs.Prelude.{ℕ, ◌-◌, ◌/◌, ◌^◌, get_or, ℤ, pos, ◌+ℤ◌, ◌-ℤ◌, ◌*ℤ◌}
use Rattle.std.specs.Int.Signed.{shr_z}
use Rattle.direct_calls.specs.Direct.{Predictor}
use Rattle.smooth_weights.specs.Weights.{log2, scale, weight}

-- z >> k
abbrev pub shr : ℤ → ℕ → ℤ
shr z k = shr_z z (2 ^ k)

-- x + (((y - x) w + 2^k / 2) >> k): from x to y, by w parts of 2^k, rounded
unfoldable pub blend : ℕ → ℤ → ℤ → ℤ → ℤ
blend k x y w = x +ℤ shr ((y -ℤ x) *ℤ w +ℤ pos (2 ^ k / 2)) k

-- "p = left[B] + (((t - left[B]) (B-1-y) + B/2) >> log2 B), result p + (((t - p) w + 32) >> 6)." e is left[B], w the weight y
abbrev pub smoothed : ℕ → ℤ → ℤ → ℕ → ℤ
smoothed B e t y = blend 6 (blend (log2 B) e t (pos (B - 1 - y))) t (pos (weight (scale B) y))

-- the sample at row r and column c
abbrev pub smooth_v_at : Predictor
smooth_v_at B above left k r c = smoothed B (get_or left B (pos 0)) (get_or above c (pos 0)) r

-- "smooth_h likewise, with above[B] and columns."
abbrev pub smooth_h_at : Predictor
smooth_h_at B above left k r c = smoothed B (get_or above B (pos 0)) (get_or left r (pos 0)) c

-- "smooth takes both results v and h: (v + h + 1) >> 1."
abbrev pub smooth_at : Predictor
smooth_at B above left k r c = shr (smooth_v_at B above left k r c +ℤ smooth_h_at B above left k r c +ℤ pos 1) 1
