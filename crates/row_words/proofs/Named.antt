-- The number of a flag and of a word, and the flag and the word of a number, agree both ways. Assumes nothing.
use mathlib.Core.Path.{◌≡◌, refl}
use Prim.Native.Nat.{ℕ}
use Rattle.std.specs.Prelude.{Some, None}
use Rattle.std.proofs.lemmas.Option.{same_Some, none-some}
use Rattle.row_words.specs.Flag.{flag_bit, flags, flag_of}
use Rattle.row_words.specs.declared.flag.Flag.{Flag}
use Rattle.row_words.specs.declared.flag.Flag.TheVariants.{Above, Left, Luma, EdgeFilter, SmoothNeighbour}
use Rattle.row_words.specs.Word.{word_place, words, word_of}
use Rattle.row_words.specs.declared.word.Word.{Word}
use Rattle.row_words.specs.declared.word.Word.TheVariants.{X, Y, Side, Bits, ModeWord, DirectionWord, DeltaWord, FlagWord, TopRight, BottomLeft, AvailableAbove, AvailableLeft, Base, MaxWidth, MaxHeight, Differences}
use Rattle.numbers.proofs.Look.{look-back}

pub flag-there : (e : Flag) → flag_of (flag_bit e) ≡ Some e
flag-there Above = refl
flag-there Left = refl
flag-there Luma = refl
flag-there EdgeFilter = refl
flag-there SmoothNeighbour = refl

pub flag-back : (n : ℕ) (e : Flag) → flag_of n ≡ Some e → flag_bit e ≡ n
flag-back n e h = look-back flag_bit Some None same_Some none-some flags n e h

pub word-there : (e : Word) → word_of (word_place e) ≡ Some e
word-there X = refl
word-there Y = refl
word-there Side = refl
word-there Bits = refl
word-there ModeWord = refl
word-there DirectionWord = refl
word-there DeltaWord = refl
word-there FlagWord = refl
word-there TopRight = refl
word-there BottomLeft = refl
word-there AvailableAbove = refl
word-there AvailableLeft = refl
word-there Base = refl
word-there MaxWidth = refl
word-there MaxHeight = refl
word-there Differences = refl

pub word_back : (n : ℕ) (e : Word) → word_of n ≡ Some e → word_place e ≡ n
word_back n e h = look-back word_place Some None same_Some none-some words n e h
