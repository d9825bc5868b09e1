-- What each mode's predictor asks, and what a mode that a row names can count on. Assumes nothing.
use mathlib.Core.Path.{◌≡◌, refl, sym, ◌∙◌, ap, subst}
use mathlib.Core.Bool.{Bool, true, false, cond}
use mathlib.Core.List.{List}
use Prim.Native.Nat.{ℕ, ◌≤◌}
use lib.IntN.{ℤ, pos, nat_abs}
use lib.Ieee.{Float}
use Rattle.numbers.specs.Depth.{is_depth, most}
use Rattle.row_words.specs.Flag.{no_stray}
use Rattle.row_words.specs.declared.dir.Dir.{Dir}
use Rattle.row_words.specs.declared.mode.Mode.{Mode}
use Rattle.row_words.specs.declared.mode.Mode.TheVariants.{Directional}
use Rattle.row_words.specs.declared.word.Word.TheVariants.{ModeWord, DirectionWord, DeltaWord, FlagWord}
use Rattle.row_words.proofs.Modes.{mode-back}
use Rattle.lists.specs.Block.{block}
use Rattle.direct_calls.specs.Given.{Given}
use Rattle.direct_calls.proofs.Accepted.{depth-most}
use Rattle.direct_calls.proofs.Given.{given-more}
use Rattle.smooth.proofs.Ready.{no-corner}
use Rattle.job.specs.Row.{Row, word}
use Rattle.row_words.specs.Mode.{named_mode, DeltaInRange}
use Rattle.job.specs.Mode.{row_mode}
use Rattle.job.specs.Job.{mode_in}
use Rattle.job.specs.declared.job.Job.{Job}
use Rattle.std.specs.Prelude.{Result, Ok, Err}
use Rattle.numbers.specs.declared.answer.Refusal.{Refusal}
use Rattle.numbers.specs.declared.answer.Refusal.TheVariants.{BadMode}
use Rattle.modes.specs.Predictor.{predictor_by, predictor_of}
use Rattle.modes.specs.Ready.{Ready, predicted_block}

-- ---- the mode of a row: a direction's delta is -3 to 3

found-turns : (mode direction delta : ℕ) (f : Result Mode Refusal) → named_mode mode direction delta ≡ f → DeltaInRange (mode_in f)
found-turns mode direction delta (Ok m) e = (mode-back mode direction delta m e).1
found-turns mode direction delta (Err _) e = tt

pub mode-turns : (row : Row) → DeltaInRange (mode_in (row_mode row))
unfolding row_mode
mode-turns row = go (no_stray (word row FlagWord))
  where
    named : Result Mode Refusal
    named = named_mode (word row ModeWord) (word row DirectionWord) (word row DeltaWord)

    go : (t : Bool) → DeltaInRange (mode_in (cond t named (Err BadMode)))
    go true = found-turns (word row ModeWord) (word row DirectionWord) (word row DeltaWord) named refl
    go false = tt

-- ---- what the predictors ask
module _ {job : Job} {above left : List ℤ} {k : ℤ} {n : ℕ} (g : Ready job above left k n) where
  abbrev B : ℕ
  B = job.spec.b

  pub paeth-asks : Given B 4095 above left k n
  paeth-asks = given-more (depth-most job.spec.d g.depth) g.given

  pub smooth-asks : Given B 4095 above left (pos 0) n
  smooth-asks = no-corner paeth-asks

-- a block by the job's predictor
pub block-is : (job : Job) (mode : Mode) (above left : List ℤ) (k : ℤ) (out after : List Float) → job.mode ≡ mode
    → after ≡ block job.spec.b job.spec.b (predictor_by mode job job.spec.b above left k) out → after ≡ predicted_block job above left k out
unfolding predictor_of
block-is job mode above left k out after e r = r ∙ ap (λ m. block job.spec.b job.spec.b (predictor_by m job job.spec.b above left k) out) (sym e)

-- what a direction asks
pub turned-asks : {job : Job} {above left : List ℤ} {k : ℤ} {n : ℕ} → Ready job above left k n → (dir : Dir) (delta : ℤ) → job.mode ≡ Directional dir delta
    → (is_depth job.spec.d ≡ true) × (nat_abs delta ≤ 3) × Given job.spec.b (most job.spec.d) above left k n
turned-asks g dir delta e = (g.depth, subst DeltaInRange e g.turns, g.given)
