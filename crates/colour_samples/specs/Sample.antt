-- What a direction's rule needs at a place, and the terms of the sample there (document 01, Colour parameters and refusal 13). Luma and chroma are
-- functions of column x and row y: `entry` of a reference list, or any other.
use Rattle.std.specs.Prelude.{Bool, ◌&&◌, ℕ, ◌+◌, ◌-◌, ◌*◌, ℤ, pos, nat_abs}
use Rattle.numbers.specs.Colour.{rows_up, columns_left}
use Rattle.numbers.specs.declared.colour.ColourDirection.{ColourDirection}
use Rattle.signed.specs.Range.{inside}
use Rattle.colour_terms.specs.Terms.{eighth, middle, squared}
use Rattle.colour_samples.specs.declared.sample.Terms.{Terms}

-- "the direction's luma" of the place at column x and row y
abbrev pub direction_luma : ColourDirection → (ℕ → ℕ → ℤ) → ℕ → ℕ → ℤ
direction_luma direction luma x y = luma (x - columns_left direction) (y - rows_up direction)

-- "a luma value that the direction's rule needs .. is not in 0..8M+7", the direction's own v and the centre c, whose square is a term; in direction 0
-- the two are one. "or such a chroma value not in 0..M", k
unfoldable pub in_range : ℕ → ℤ → ℤ → ℤ → Bool
in_range M v c k = (inside (pos (8 * M + 7)) v && inside (pos (8 * M + 7)) c) && inside (pos M) k

-- what is needed at column x and row y is in range
unfoldable pub in_range_at : ℕ → ColourDirection → (ℕ → ℕ → ℤ) → (ℕ → ℕ → ℤ) → ℕ → ℕ → Bool
in_range_at M direction luma chroma x y = in_range M (direction_luma direction luma x y) (luma x y) (chroma x y)

-- "Terms: the direction's luma >> 3, (c x c + 2^(D-1)) >> D, and 2^(D-1)", of a sample with the direction's luma v and the centre c, c here being its
-- luma >> 3. In range no term is below 0 (proofs/Ranges.antt), so each is a natural number
unfoldable pub terms : ℕ → ℤ → ℤ → Terms
terms D v c = record { own = nat_abs (eighth v); square = nat_abs (squared D (eighth c)); middle = middle D }
