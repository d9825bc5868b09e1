-- "Zone 2 filters its corner, (5 left0 + 6 k + 5 above0 + 8) >> 4, when the edge filter is set and 2B >= 24, whichever neighbour is there."
-- (document 01, Directions)
use Rattle.std.specs.Prelude.{ℕ, Bool, cond, ◌&&◌, leb, ℤ, pos, ◌+ℤ◌, ◌*ℤ◌}
use Rattle.std.specs.Int.Signed.{shr_z}

unfoldable pub filtered_corner : Bool → ℕ → ℤ → ℤ → ℤ → ℤ
filtered_corner filter wh left0 k above0 =
    cond (filter && leb 24 wh) (shr_z (pos 5 *ℤ left0 +ℤ pos 6 *ℤ k +ℤ pos 5 *ℤ above0 +ℤ pos 8) 16) k
