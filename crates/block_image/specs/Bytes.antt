-- "All words are little-endian." (document 02, request (iv)): words of two and of four bytes. Bytes are told by what stands at each place.
use Rattle.std.specs.Prelude.{ℕ, zero, suc, ◌+◌, ◌*◌, ◌/◌, ◌%◌, ◌^◌}

-- the word of the two bytes from a place on, and of the four
abbrev pub word16 : (ℕ → ℕ) → ℕ → ℕ
word16 at i = at i + 256 * at (i + 1)

abbrev pub word32 : (ℕ → ℕ) → ℕ → ℕ
word32 at i = at i + 256 * at (i + 1) + 65536 * at (i + 2) + 16777216 * at (i + 3)

-- byte i of a word
abbrev pub byte_of : ℕ → ℕ → ℕ
byte_of n i = n / 256 ^ i % 256

-- the sum of the first n words
unfoldable pub sum_to : (ℕ → ℕ) → ℕ → ℕ
sum_to at zero = 0
sum_to at (suc n) = sum_to at n + word32 at (4 * n)

-- "the sum modulo 2 to the 32 of the 127 words before it"
abbrev pub check_of : (ℕ → ℕ) → ℕ
check_of at = sum_to at 127 % 2 ^ 32
