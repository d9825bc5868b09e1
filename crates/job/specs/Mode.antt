-- The mode of a row: "A job in the program carries its mode as one value: a plain name, or a direction with its delta." (document 01, Ranges and
-- numbers that name things). "Words 5, 6, 13 and 14 are looked at only in mode 4": 5 and 6 by `named_mode`, 13 and 14 by the predictor of mode 4.
use Rattle.std.specs.Prelude.{Bool, cond, Result, Err}
use Rattle.row_words.specs.Flag.{no_stray}
use Rattle.row_words.specs.Mode.{named_mode, is_found}
use Rattle.row_words.specs.declared.word.Word.TheVariants.{ModeWord, DirectionWord, DeltaWord, FlagWord}
use Rattle.job.specs.Row.{Row, word}
use Rattle.numbers.specs.declared.answer.Refusal.{Refusal}
use Rattle.numbers.specs.declared.answer.Refusal.TheVariants.{BadMode}
use Rattle.row_words.specs.declared.mode.Mode.{Mode}

-- refusal 3: "mode above 4, direction above 7, delta word above 6, a stray flag bit", the last in every mode
unfoldable pub row_mode : Row → Result Mode Refusal
row_mode row = cond (no_stray (word row FlagWord)) (named_mode (word row ModeWord) (word row DirectionWord) (word row DeltaWord)) (Err BadMode)

unfoldable pub is_mode : Row → Bool
is_mode row = is_found (row_mode row)
