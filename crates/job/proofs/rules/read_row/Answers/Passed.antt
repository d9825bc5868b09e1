-- What each test of `read_row` has shown where it is passed, and the rules that are left. Assumes nothing.
use mathlib.Core.Path.{◌≡◌, refl, sym, ◌∙◌, ap}
use mathlib.Core.Bool.{Bool, true, false, cond}
use Prim.Native.Nat.{ℕ}
use Rattle.block_spec.specs.declared.spec.IntraRefSpec.{IntraRefSpec}
use Rattle.row_words.specs.declared.mode.Mode.{Mode}
use mathlib.Core.List.{List, [], ◌∷◌, ◌++◌}
use Rattle.numbers.specs.Answer.{Answer}
use Rattle.row_words.specs.Mode.{is_found, named_mode}
use Rattle.numbers.specs.declared.answer.Refusal.TheVariants.{BadMode, NoDifferences}
use Rattle.std.specs.Prelude.{⊤, Result, Ok, Err}
use Rattle.numbers.specs.declared.answer.Refusal.{Refusal}
use Rattle.row_words.proofs.Refused.{mode-refused}
use Rattle.refusals.specs.Ladder.{Rule, ◌else◌, ladder}
use Rattle.refusals.proofs.Ladder.{kept, broken, segment-ok}
use Rattle.block_spec.specs.Rules.{size_rules, place_rules}
use Rattle.row_words.specs.Flag.{no_stray}
use Rattle.row_words.specs.declared.word.Word.TheVariants.{ModeWord, DirectionWord, DeltaWord, FlagWord}
use Rattle.numbers.proofs.Look.{err-same}
use Rattle.job.specs.Row.{spec_of, word}
use Rattle.job.specs.Mode.{is_mode, row_mode}
use Rattle.job.specs.Rules.{has_differences, row_answer}

module _ (W H n : ℕ) (row : List ℕ) where
  abbrev pub answer : Answer
  answer = row_answer W H n row

  abbrev pub sizes : List Rule
  sizes = size_rules (spec_of row)

  abbrev pub places : List Rule
  places = place_rules W H (spec_of row)

  abbrev pub last : List Rule
  last = has_differences n row else NoDifferences ∷ []

  abbrev pub late : List Rule
  late = is_mode row else BadMode ∷ (places ++ last)

  pub none : answer ≡ ladder (sizes ++ late)
  unfolding row_answer
  none = refl

  abbrev by_flags : Bool → Result Mode Refusal
  by_flags b = cond b (named_mode (word row ModeWord) (word row DirectionWord) (word row DeltaWord)) (Err BadMode)

  row_refused : {r : Refusal} (t : Bool) → no_stray (word row FlagWord) ≡ t → row_mode row ≡ Err r → r ≡ BadMode
  unfolding row_mode
  row_refused true q h = mode-refused _ _ _ (sym (ap by_flags q) ∙ h)
  row_refused false q h = err-same _ BadMode (sym h ∙ ap by_flags q)

  -- what 1 and 2 answer, and then 4, 5 and 6
  module _ (s : IntraRefSpec) (a : Answer) (is : s ≡ spec_of row) where
    pub sizes-are : a ≡ ladder (size_rules s) → a ≡ ladder sizes
    sizes-are e = e ∙ ap (λ s. ladder (size_rules s)) is

    pub places-are : a ≡ ladder (place_rules W H s) → a ≡ ladder places
    places-are e = e ∙ ap (λ s. ladder (place_rules W H s)) is

  module _ {u : ⊤} (sizes-done : Ok u ≡ ladder sizes) where
    pub two : answer ≡ ladder late
    two = segment-ok sizes late sizes-done none

    -- 3 refuses a row that names no mode
    pub no_mode : {r : Refusal} → Err r ≡ row_mode row → Err r ≡ answer
    unfolding is_mode
    no_mode e = ap Err (row_refused (no_stray (word row FlagWord)) refl (sym e)) ∙ broken _ _ _ _ (ap is_found (sym e)) two

    module _ (m : Mode) (mode-is : Ok m ≡ row_mode row) where
      pub three : answer ≡ ladder (places ++ last)
      unfolding is_mode
      three = kept _ _ _ _ (ap is_found (sym mode-is)) two

      pub six : {v : ⊤} → Ok v ≡ ladder places → answer ≡ ladder last
      six e = segment-ok places last e three
