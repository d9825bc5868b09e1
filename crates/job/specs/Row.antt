-- "A job is a row of sixteen 16-bit words" (document 01, Ranges and numbers that name things).
use Rattle.std.specs.Prelude.{List, ℕ, ◌*◌, get_or, take, drop}
use Rattle.numbers.specs.Limits.{row_words}
use Rattle.row_words.specs.Flag.{is_set}
use Rattle.row_words.specs.Word.{word_place}
use Rattle.row_words.specs.declared.flag.Flag.TheVariants.{Above, Left}
use Rattle.row_words.specs.declared.word.Word.{Word}
use Rattle.row_words.specs.declared.word.Word.TheVariants.{X, Y, Side, Bits, FlagWord, TopRight, BottomLeft, AvailableAbove, AvailableLeft, Base, Differences}
use Rattle.block_spec.specs.declared.spec.IntraRefSpec.{IntraRefSpec}

abbrev pub Row : Type 0
Row = List ℕ

-- row i of a plan
abbrev pub row_at : List ℕ → ℕ → Row
row_at plan i = take row_words (drop (row_words * i) plan)

abbrev pub word : Row → Word → ℕ
word row w = get_or row (word_place w) 0

-- the words that `build_refs` takes; "Flag bits: 0 above is there, 1 left is there"
abbrev pub spec_of : Row → IntraRefSpec
spec_of row = record {
  x = word row X;
  y = word row Y;
  b = word row Side;
  d = word row Bits;
  have_above = is_set Above (word row FlagWord);
  have_left = is_set Left (word row FlagWord);
  top_right = word row TopRight;
  bottom_left = word row BottomLeft;
  available_above = word row AvailableAbove;
  available_left = word row AvailableLeft;
  base = word row Base;
}

-- "15 start of the differences in units of 16"
abbrev pub start_of : Row → ℕ
start_of row = 16 * word row Differences
