-- When bytes are accepted, and what they then hold (document 02, request (iv)).
use Rattle.std.specs.Prelude.{ℕ, ◌+◌, ◌-◌, ◌*◌, ◌/◌, ◌%◌, ◌<◌, Bool, true, cond, ◌&&◌, List, ◌≡◌, eqb, length}
use Rattle.lists.specs.Fill.{tab}
use Rattle.block_image.specs.Bytes.{word16}
use Rattle.block_image.specs.Rules.{block_bytes, used_at, is_whole, is_check, is_index, is_used, is_zero}
use Rattle.block_image.specs.declared.format.Format.{Format}

-- the blocks of a file
abbrev pub blocks_in : List ℕ → ℕ
blocks_in bytes = length bytes / 512

-- block k is as it must be
abbrev pub is_block : Format → List ℕ → ℕ → Bool
is_block F bytes k =
    let at = block_bytes bytes k in
    is_check at && is_index k at && is_used F (eqb (k + 1) (blocks_in bytes)) k (used_at at) && is_zero F (used_at at) at

-- whole blocks, each as it must be
pub record WholeFile (F : Format) (bytes : List ℕ) : Type 0 where
  pub whole : is_whole F (length bytes) ≡ true
  pub each : (k : ℕ) → k < blocks_in bytes → is_block F bytes k ≡ true

-- the rows of the first n blocks: all of them but the last are full
abbrev pub rows_to : Format → List ℕ → ℕ → ℕ
rows_to F bytes n = cond (eqb n 0) 0 ((n - 1) * F.rows + used_at (block_bytes bytes (n - 1)))

-- the rows of the file
abbrev pub rows_of : Format → List ℕ → ℕ
rows_of F bytes = rows_to F bytes (blocks_in bytes)

-- word i of the plan, where a block has `area` words from place `lead` on
abbrev pub word_in : ℕ → ℕ → List ℕ → ℕ → ℕ
word_in area lead bytes i = word16 (block_bytes bytes (i / area)) (lead + 2 * (i % area))

-- and by the format's numbers
abbrev pub word_at : Format → List ℕ → ℕ → ℕ
word_at F bytes i = word_in (F.rows * F.words) (8 + F.zeros) bytes i

-- the plan that is read
unfoldable pub plan_of : Format → List ℕ → List ℕ
plan_of F bytes = tab (rows_of F bytes * F.words) (word_at F bytes)
