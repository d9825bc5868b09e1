-- "Refusals: 40 length not whole blocks or above 69, 41 check, 42 index out of turn, 43 rows used wrong or 1,024 jobs passed, 44 a byte that must be zero,
-- 45 lent buffer short; per block in that order, 40 first and 45 last; the writer gives 21, then 45." (document 02, request (iv))
use Rattle.std.specs.Prelude.{Bool, ◌&&◌, List, [], ◌∷◌, ◌++◌, ℕ, zero, suc, ◌+◌, ◌*◌, ◌%◌, eqb, leb, length}
use Rattle.numbers.specs.Limits.{most_jobs}
use Rattle.numbers.specs.declared.answer.Refusal.TheVariants.{BadPlan, NotBlocks, BadCheck, OutOfTurn, BadUsed, NotZero, NoRoom}
use Rattle.refusals.specs.Ladder.{Rule, ◌else◌, ladder}
use Rattle.block_image.specs.Image.{rows_in, image_size}
use Rattle.block_image.specs.Rules.{block_bytes, used_at, is_whole, is_check, is_index, is_used, is_zero}
use Rattle.block_image.specs.Taken.{blocks_in, rows_of}
use Rattle.block_image.specs.declared.format.Format.{Format}
use Rattle.numbers.specs.Answer.{Answer}

-- of one block
abbrev pub block_rules : Format → Bool → ℕ → (ℕ → ℕ) → List Rule
block_rules F last k at =
    is_check at else BadCheck ∷
    is_index k at else OutOfTurn ∷
    is_used F last k (used_at at) else BadUsed ∷
    is_zero F (used_at at) at else NotZero ∷ []

-- what a block answers by itself
unfoldable pub block_answer : Format → Bool → ℕ → (ℕ → ℕ) → Answer
block_answer F last k at = ladder (block_rules F last k at)

-- of the first k blocks
unfoldable pub blocks_rules : Format → List ℕ → ℕ → List Rule
blocks_rules F bytes zero = []
blocks_rules F bytes (suc k) = blocks_rules F bytes k ++ block_rules F (eqb (k + 1) (blocks_in bytes)) k (block_bytes bytes k)

-- 45: a list of `room` entries for what is written, and one of `slots` for how many that are
unfoldable pub has_room : ℕ → ℕ → ℕ → Bool
has_room need room slots = leb need room && leb 1 slots

-- of a file: 40, the blocks one after the other, and 45 after them all
abbrev pub file_rules : Format → List ℕ → ℕ → ℕ → List Rule
file_rules F bytes room slots =
    is_whole F (length bytes) else NotBlocks ∷
    blocks_rules F bytes (blocks_in bytes) ++ (has_room (rows_of F bytes * F.words) room slots else NoRoom ∷ [])

-- what reading a file answers
unfoldable pub file_answer : Format → List ℕ → ℕ → ℕ → Answer
file_answer F bytes room slots = ladder (file_rules F bytes room slots)

-- 21: "plan not whole rows or above 1,024 jobs"
unfoldable pub is_rows : Format → List ℕ → Bool
is_rows F plan = eqb (length plan % F.words) 0 && leb (rows_in F plan) most_jobs

-- what writing a plan answers: 21, then 45
unfoldable pub write_answer : Format → List ℕ → ℕ → ℕ → Answer
write_answer F plan room slots =
    ladder (is_rows F plan else BadPlan ∷ has_room (image_size F plan) room slots else NoRoom ∷ [])
