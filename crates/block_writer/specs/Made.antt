-- A block as the code makes it, of its index, its count of rows and its words, which stand from place `lead` on. proofs/Image leads back to
-- the image.
use Rattle.std.specs.Prelude.{◌≡◌, ℕ, ◌-◌, ◌*◌, ◌/◌, ◌%◌, ◌≤◌, cond, List, ltb, length, get_or}
use Rattle.numbers.specs.Limits.{most_jobs}
use Rattle.block_image.specs.Bytes.{byte_of, check_of}
use Rattle.block_image.specs.Image.{rows_in}
use Rattle.block_image.specs.declared.format.Format.{Format}

-- the bytes of words, and zeros after them
abbrev pub word_byte : List ℕ → ℕ → ℕ
word_byte words i = byte_of (get_or words (i / 2) 0) (i % 2)

-- before the rows
abbrev pub head_byte : ℕ → ℕ → ℕ → ℕ
head_byte k used b = cond (ltb b 4) (byte_of k b) (cond (ltb b 8) (byte_of used (b - 4)) 0)

-- before the check
unfoldable pub made_body : ℕ → ℕ → ℕ → List ℕ → ℕ → ℕ
made_body k used lead words b = cond (ltb b lead) (head_byte k used b) (word_byte words (b - lead))

unfoldable pub made_byte : ℕ → ℕ → ℕ → List ℕ → ℕ → ℕ
made_byte k used lead words b = cond (ltb b 508) (made_body k used lead words b) (byte_of (check_of (made_body k used lead words)) (b - 508))

-- what writing asks of a plan of n rows
pub record WholeRows (F : Format) (plan : List ℕ) (n : ℕ) : Type 0 where
  pub is : n ≡ rows_in F plan
  pub whole : length plan ≡ n * F.words
  pub few : n ≤ most_jobs
