-- "Product and division are inner helpers" (document 01, Colour parameters): the reciprocal, `division_scale_shift` of mhccp.rs, over whole numbers.
use Rattle.std.specs.Prelude.{ℕ, zero, suc, ◌+◌, ◌-◌, ◌*◌, ◌/◌, ◌%◌, ◌^◌, min, max, cond, List, [], ◌∷◌, ℤ, pos, ◌+ℤ◌, ◌-ℤ◌, ◌*ℤ◌, nat_lt, slice_index_or}
use Rattle.std.specs.Int.Signed.{shr_z}
use Rattle.fixed_product.specs.Product.{ilog2}

-- the curve's eight pieces: a square's weight, where it is 0, and the height there
abbrev pub pow2w : List ℤ
pow2w = pos 214 ∷ pos 153 ∷ pos 113 ∷ pos 86 ∷ pos 67 ∷ pos 53 ∷ pos 43 ∷ pos 35 ∷ []

abbrev pub pow2o : List ℤ
pow2o = pos 4822 ∷ pos 5952 ∷ pos 6624 ∷ pos 6792 ∷ pos 6408 ∷ pos 5424 ∷ pos 3792 ∷ pos 1466 ∷ []

abbrev pub pow2b : List ℤ
pow2b = pos 12784 ∷ pos 12054 ∷ pos 11670 ∷ pos 11583 ∷ pos 11764 ∷ pos 12195 ∷ pos 12870 ∷ pos 13782 ∷ []

abbrev pub piece : ℤ → ℤ → ℤ → ℤ
piece w x b = (shr_z (w *ℤ shr_z (x *ℤ x) (2 ^ 14)) (2 ^ 8) -ℤ shr_z x (2 ^ 1)) +ℤ b

-- the curve at n < 2 ^ 14
unfoldable pub curve : ℕ → ℤ
curve n = piece (slice_index_or pow2w (n / 2048) (pos 0)) (pos n -ℤ slice_index_or pow2o (n / 2048) (pos 0)) (slice_index_or pow2b (n / 2048) (pos 0))

-- d / 2 ^ k rounded to the nearest, halves up, by a sum that keeps 32 digits. Up to 2 ^ 31, which no |z| of 32 bits passes, it keeps them all
abbrev pub dropped : ℕ → ℕ → ℕ
dropped d zero = d
dropped d (suc k) = (d + 2 ^ k) % 2 ^ 32 / 2 ^ suc k

-- d's highest bit, at place s, moved to place 14; digits that fall off are rounded
unfoldable pub moved : ℕ → ℕ → ℕ
moved d s = cond (nat_lt s 14) (d * 2 ^ (14 - s)) (dropped d (s - 14))

-- d as 1 and a fraction of 14 digits: the fraction, and 1 for 0
unfoldable pub fraction : ℕ → ℕ
fraction d = max 1 (min 32767 (moved d (ilog2 d))) % 2 ^ 14

-- 2 ^ 16 times 2 ^ ilog2 d / d, about
unfoldable pub scale_of : ℕ → ℤ
scale_of d = curve (fraction d) *ℤ pos 4
