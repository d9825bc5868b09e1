-- "Terms: the direction's luma >> 3, (c x c + 2^(D-1)) >> D, and 2^(D-1)." (document 01, Colour parameters): the places of a reference list, and the
-- terms of one sample.
use Rattle.std.specs.Prelude.{ℕ, ◌+◌, ◌-◌, ◌*◌, ◌^◌, List, ℤ, pos, ◌+ℤ◌, ◌*ℤ◌, get_or}
use Rattle.std.specs.Int.Signed.{shr_z}

-- a reference list has rows of 256 entries, whatever its width
abbrev pub stride : ℕ
stride = 256

-- what stands at column x and row y, the entry that the column and the row name
abbrev pub entry : List ℤ → ℕ → ℕ → ℤ
entry xs x y = get_or xs (y * stride + x) (pos 0)

-- "luma >> 3"
abbrev pub eighth : ℤ → ℤ
eighth v = shr_z v 8

-- 2^(D-1)
abbrev pub middle : ℕ → ℕ
middle D = 2 ^ (D - 1)

-- "(c x c + 2^(D-1)) >> D"
unfoldable pub squared : ℕ → ℤ → ℤ
squared D c = shr_z (c *ℤ c +ℤ pos (middle D)) (2 ^ D)
