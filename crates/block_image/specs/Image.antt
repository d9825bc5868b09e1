-- The bytes of a plan: "blocks of 512 bytes: block index (4 bytes, little-endian), rows used 1 to 15 (4), twenty zero bytes, fifteen rows of 32 bytes with
-- unused ones zero, and last a check" (document 02, request (iv)). A format has these numbers, and how many blocks there are at most.
use Rattle.std.specs.Prelude.{ℕ, ◌+◌, ◌-◌, ◌*◌, ◌/◌, ◌%◌, min, cond, List, ltb, length, get_or}
use Rattle.numbers.specs.Limits.{row_words}
use Rattle.lists.specs.Fill.{tab}
use Rattle.block_image.specs.Bytes.{byte_of, check_of}
use Rattle.block_image.specs.declared.format.Format.{Format}

-- the numbers of request (iv): fifteen rows of sixteen words after twenty zero bytes, and 69 blocks at the most
abbrev pub plan_format : Format
plan_format = record { rows = 15; words = row_words; zeros = 20; most = 69 }

-- those of request (v): "seven rows of 64 bytes after fifty-two zero bytes, 147 blocks at most"
abbrev pub tower_format : Format
tower_format = record { rows = 7; words = 32; zeros = 52; most = 147 }

-- the rows of a plan
abbrev pub rows_in : Format → List ℕ → ℕ
rows_in F plan = length plan / F.words

-- "All blocks but the last hold fifteen rows; an empty plan has no blocks."
abbrev pub blocks_for : Format → ℕ → ℕ
blocks_for F n = (n + F.rows - 1) / F.rows

-- how many of n rows block k holds
abbrev pub used_in : Format → ℕ → ℕ → ℕ
used_in F n k = min F.rows (n - k * F.rows)

-- byte i of the rows of block k: the plan's words go on from block to block, and where the plan has ended stands 0
abbrev pub row_byte : Format → List ℕ → ℕ → ℕ → ℕ
row_byte F plan k i = byte_of (get_or plan (k * (F.rows * F.words) + i / 2) 0) (i % 2)

-- byte b of block k, before the check
unfoldable pub body_byte : Format → List ℕ → ℕ → ℕ → ℕ
body_byte F plan k b =
    cond (ltb b 4) (byte_of k b)
    (cond (ltb b 8) (byte_of (used_in F (rows_in F plan) k) (b - 4))
    (cond (ltb b (8 + F.zeros)) 0 (row_byte F plan k (b - (8 + F.zeros)))))

-- byte b of block k
abbrev pub block_byte : Format → List ℕ → ℕ → ℕ → ℕ
block_byte F plan k b = cond (ltb b 508) (body_byte F plan k b) (byte_of (check_of (body_byte F plan k)) (b - 508))

-- byte i of the file
abbrev pub image_byte : Format → List ℕ → ℕ → ℕ
image_byte F plan i = block_byte F plan (i / 512) (i % 512)

-- how many bytes the file has
abbrev pub image_size : Format → List ℕ → ℕ
image_size F plan = 512 * blocks_for F (rows_in F plan)

-- "One plan has one byte image"
unfoldable pub image : Format → List ℕ → List ℕ
image F plan = tab (image_size F plan) (image_byte F plan)
