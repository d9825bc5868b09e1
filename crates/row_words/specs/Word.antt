-- "0 x, 1 y, 2 B, 3 D, 4 mode, 5 direction, 6 delta + 3, 7 flags, 8 top-right, 9 bottom-left, 10 available-above, 11 available-left,
-- 12 base, 13 max-width, 14 max-height, 15 start of the differences in units of 16"
use Rattle.std.specs.Prelude.{List, [], ◌∷◌, ℕ, Option, Some, None}
use Rattle.numbers.specs.Look.{look}
use Rattle.row_words.specs.declared.word.Word.{Word}
use Rattle.row_words.specs.declared.word.Word.TheVariants.{X, Y, Side, Bits, ModeWord, DirectionWord, DeltaWord, FlagWord, TopRight, BottomLeft, AvailableAbove, AvailableLeft, Base, MaxWidth, MaxHeight, Differences}

-- case to number
abbrev pub word_place : Word → ℕ
word_place X = 0
word_place Y = 1
word_place Side = 2
word_place Bits = 3
word_place ModeWord = 4
word_place DirectionWord = 5
word_place DeltaWord = 6
word_place FlagWord = 7
word_place TopRight = 8
word_place BottomLeft = 9
word_place AvailableAbove = 10
word_place AvailableLeft = 11
word_place Base = 12
word_place MaxWidth = 13
word_place MaxHeight = 14
word_place Differences = 15

abbrev pub words : List Word
words =
    X ∷ Y ∷ Side ∷ Bits ∷ ModeWord ∷ DirectionWord ∷ DeltaWord ∷ FlagWord ∷
    TopRight ∷ BottomLeft ∷ AvailableAbove ∷ AvailableLeft ∷ Base ∷ MaxWidth ∷ MaxHeight ∷ Differences ∷ []

-- number to case
abbrev pub word_of : ℕ → Option Word
word_of n = look word_place Some None words n
