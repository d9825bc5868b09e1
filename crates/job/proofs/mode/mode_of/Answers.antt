-- `mode_of` meets its contract: the words are the row's. Assumes nothing.
use mathlib.Core.List.{List}
use Prim.Native.Nat.{ℕ}
use mathlib.Core.Path.{◌≡◌, sym, ◌∙◌, ap}
use mathlib.Core.Bool.{Bool, cond}
use Rattle.row_words.specs.Flag.{no_stray}
use Rattle.row_words.specs.declared.word.Word.TheVariants.{FlagWord, ModeWord, DirectionWord, DeltaWord}
use Rattle.job.specs.Row.{word}
use Rattle.row_words.specs.Mode.{named_mode}
use Rattle.job.specs.Mode.{row_mode}
use Rattle.std.specs.Prelude.{Err}
use Rattle.numbers.specs.declared.answer.Refusal.TheVariants.{BadMode}
use Rattle.job.proofs.mode.mode_of.Goals as goal

-- by the test of the flags
by_flags : (row : List ℕ) (w : ℕ) (r b : Bool) → w ≡ word row FlagWord → r ≡ no_stray w → r ≡ b
    → row_mode row ≡ cond b (named_mode (word row ModeWord) (word row DirectionWord) (word row DeltaWord)) (Err BadMode)
unfolding row_mode
by_flags row w r b e t q =
    ap (λ s. cond s (named_mode (word row ModeWord) (word row DirectionWord) (word row DeltaWord)) (Err BadMode))
    (ap no_stray (sym e) ∙ sym t ∙ q)

pub returns-then-not-no_stray : goal.returns-then-not-no_stray
returns-then-not-no_stray c = sym (by_flags c.args.row.now _ _ _ c.word.ensures c.no_stray.ensures c.if-not-no_stray.true)

pub returns : goal.returns
returns c =
    c.of.ensures
    ∙ (λ j. named_mode (c.word-mode.ensures j) (c.word-direction.ensures j) (c.word-delta.ensures j))
    ∙ sym (by_flags c.args.row.now _ _ _ c.word.ensures c.no_stray.ensures c.if-not-no_stray.false)
