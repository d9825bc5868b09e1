-- The tests of bytes that are read, 40 to 44 (document 02, request (iv)), each by itself; their order, and 45, are in Refusals.
use Rattle.std.specs.Prelude.{ℕ, zero, suc, ◌+◌, ◌-◌, ◌*◌, ◌/◌, ◌%◌, Bool, true, ◌&&◌, ◌||◌, List, leb, eqb, get_or}
use Rattle.numbers.specs.Limits.{most_jobs}
use Rattle.block_image.specs.Bytes.{word32, check_of}
use Rattle.block_image.specs.declared.format.Format.{Format}

-- the bytes from a place on
abbrev pub bytes_from : List ℕ → ℕ → ℕ → ℕ
bytes_from bytes o b = get_or bytes (o + b) 0

-- those of block k
abbrev pub block_bytes : List ℕ → ℕ → ℕ → ℕ
block_bytes bytes k = bytes_from bytes (512 * k)

-- the count of rows that a block gives
abbrev pub used_at : (ℕ → ℕ) → ℕ
used_at at = word32 at 4

-- 40: "length not whole blocks or above 69"
unfoldable pub is_whole : Format → ℕ → Bool
is_whole F n = eqb (n % 512) 0 && leb (n / 512) F.most

-- 41: "check"
unfoldable pub is_check : (ℕ → ℕ) → Bool
is_check at = eqb (word32 at 508) (check_of at)

-- 42: "index out of turn"
abbrev pub is_index : ℕ → (ℕ → ℕ) → Bool
is_index k at = eqb (word32 at 0) k

-- 43: "rows used wrong or 1,024 jobs passed": none, more than a block holds, or fewer in a block that is not the last; or, with those of the full blocks
-- before it, more than 1,024
unfoldable pub is_used : Format → Bool → ℕ → ℕ → Bool
is_used F last k used = leb 1 used && leb used F.rows && (last || eqb used F.rows) && leb (k * F.rows + used) most_jobs

-- n bytes from a place on are zero
unfoldable pub all_zero : (ℕ → ℕ) → ℕ → ℕ → Bool
all_zero at i zero = true
all_zero at i (suc n) = all_zero at i n && eqb (at (i + n)) 0

-- 44: "a byte that must be zero": those before the rows, and unused rows
abbrev pub is_zero : Format → ℕ → (ℕ → ℕ) → Bool
is_zero F used at = all_zero at 8 F.zeros && all_zero at (8 + F.zeros + 2 * (used * F.words)) (2 * ((F.rows - used) * F.words))
