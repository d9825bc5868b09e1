-- A word's place in a row. Assumes nothing.
use mathlib.Core.Path.{◌≡◌, refl}
use Prim.Native.Nat.{◌<◌}
use native.Mathlib.Omega.{arith}
use lib.ListN.{length}
use Rattle.numbers.specs.Limits.{row_words}
use Rattle.row_words.specs.Word.{word_place, words}
use Rattle.row_words.specs.declared.word.Word.{Word}
use Rattle.row_words.specs.declared.word.Word.TheVariants.{X, Y, Side, Bits, ModeWord, DirectionWord, DeltaWord, FlagWord, TopRight, BottomLeft, AvailableAbove, AvailableLeft, Base, MaxWidth, MaxHeight, Differences}

pub word_count : length words ≡ row_words
word_count = refl

pub word_below : (w : Word) → word_place w < row_words
word_below X = omega arith
word_below Y = omega arith
word_below Side = omega arith
word_below Bits = omega arith
word_below ModeWord = omega arith
word_below DirectionWord = omega arith
word_below DeltaWord = omega arith
word_below FlagWord = omega arith
word_below TopRight = omega arith
word_below BottomLeft = omega arith
word_below AvailableAbove = omega arith
word_below AvailableLeft = omega arith
word_below Base = omega arith
word_below MaxWidth = omega arith
word_below MaxHeight = omega arith
word_below Differences = omega arith
