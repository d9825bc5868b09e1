-- Words that name no mode are refused by 3, whichever of them it is. Assumes nothing.
use mathlib.Core.Path.{◌≡◌, refl, sym, subst}
use mathlib.Core.Bool.{Bool, true, false, cond}
use Prim.Native.Nat.{ℕ}
use lib.Dec.{eqb}
use Rattle.std.specs.Prelude.{Result, Ok, Err}
use Rattle.numbers.specs.declared.answer.Refusal.{Refusal}
use Rattle.numbers.specs.declared.answer.Refusal.TheVariants.{BadMode}
use Rattle.numbers.proofs.Look.{err-ok, err-same, look-refused}
use Rattle.row_words.specs.Dir.{dir_number, dirs, dir_of, is_delta, delta_of}
use Rattle.row_words.specs.Mode.{direction_mode, directed_mode, named_mode}
use Rattle.row_words.specs.declared.dir.Dir.{Dir}
use Rattle.row_words.specs.declared.mode.Mode.{Mode}
use Rattle.row_words.specs.declared.mode.Mode.TheVariants.{Directional}

dir-refused : (n : ℕ) (r : Refusal) → dir_of n ≡ Err r → r ≡ BadMode
dir-refused n r h = look-refused dir_number BadMode dirs n h

module _ {r : Refusal} where
  -- a test that finds a mode, or leaves what is later
  found : (t : Bool) (m : Mode) (later : Result Mode Refusal) → (later ≡ Err r → r ≡ BadMode) → cond t (Ok m) later ≡ Err r → r ≡ BadMode
  found true m later after h = absurd (err-ok r m (sym h))
  found false m later after h = after h

  none : ◌≡◌ {A = Result Mode Refusal} (Err BadMode) (Err r) → r ≡ BadMode
  none h = err-same r BadMode (sym h)

  directed-refused : (direction delta : ℕ) (f : Result Dir Refusal) → dir_of direction ≡ f → directed_mode f delta ≡ Err r → r ≡ BadMode
  directed-refused direction delta (Ok d) e h = found (is_delta delta) (Directional d (delta_of delta)) (Err BadMode) none h
  directed-refused direction delta (Err q) e h = dir-refused direction r (subst (λ x. dir_of direction ≡ Err x) (err-same q r h) e)

  last : (t : Bool) (direction delta : ℕ) → cond t (directed_mode (dir_of direction) delta) (Err BadMode) ≡ Err r → r ≡ BadMode
  last true direction delta h = directed-refused direction delta (dir_of direction) refl h
  last false direction delta h = none h

  pub mode-refused : (mode direction delta : ℕ) → named_mode mode direction delta ≡ Err r → r ≡ BadMode
  unfolding named_mode
  mode-refused mode direction delta =
      found (eqb mode 0) _ _ (found (eqb mode 1) _ _ (found (eqb mode 2) _ _ (found (eqb mode 3) _ _ (last (eqb mode direction_mode) direction delta))))
