-- The two ways agree for every mode, over a row's words: they name a mode whose delta is -3 to 3 exactly when they stand for it. Assumes nothing.
use mathlib.Core.Path.{◌≡◌, refl, sym, ◌∙◌, ap, subst}
use mathlib.Core.Bool.{Bool, true, false, cond}
use mathlib.Core.Logic.{⊎_elim}
use Prim.Native.Nat.{ℕ, ◌≤◌}
use native.Mathlib.Omega.{arith}
use lib.Dec.{eqb}
use lib.IntN.{ℤ, pos, nat_abs, ◌+ℤ◌, ◌-ℤ◌}
use borrow.Author.Tests.{eqb-true, le-leb}
use Rattle.signed.proofs.Parts.{up, dn, same, add, sub, abs, one}
use Rattle.row_words.specs.Dir.{dir_number, dir_of, is_delta, delta_of}
use Rattle.row_words.specs.Mode.{direction_mode, directed_mode, named_mode, StandFor, DeltaInRange}
use Rattle.row_words.specs.declared.dir.Dir.{Dir}
use Rattle.row_words.specs.declared.mode.Mode.{Mode}
use Rattle.row_words.specs.declared.mode.Mode.TheVariants.{Paeth, Smooth, SmoothV, SmoothH, Directional}
use Rattle.numbers.specs.declared.answer.Refusal.{Refusal}
use Rattle.numbers.specs.declared.answer.Refusal.TheVariants.{BadMode}
use Rattle.numbers.proofs.Look.{ok-same, err-ok}
use Rattle.std.specs.Prelude.{Result, Ok, Err}
use Rattle.row_words.proofs.Dirs.{dir-there, dir-back}
use Rattle.row_words.proofs.Angle.{delta-small}

-- ---- a delta and its word

word-most : (word : ℕ) (z : ℤ) → nat_abs z ≤ 3 → pos word ≡ z +ℤ pos 3 → is_delta word ≡ true
unfolding is_delta
word-most word z h e =
    let sum = add z (pos 3) in
    let size = abs z in
    let up_is : up (pos word) ≡ up (z +ℤ pos 3) = ap up e in
    let dn-is : dn (pos word) ≡ dn (z +ℤ pos 3) = ap dn e in
    le-leb word 6 (⊎_elim (λ p. omega arith) (λ p. omega arith) (one z))

delta-is : (word : ℕ) (z : ℤ) → pos word ≡ z +ℤ pos 3 → delta_of word ≡ z
unfolding delta_of
delta-is word z e =
    let up_is : up (pos word) ≡ up (z +ℤ pos 3) = ap up e in
    let dn-is : dn (pos word) ≡ dn (z +ℤ pos 3) = ap dn e in
    same _ _ (omega (arith, add z (pos 3), sub (pos word) (pos 3)))

word-is : (word : ℕ) → pos word ≡ delta_of word +ℤ pos 3
unfolding delta_of
word-is word = same _ _ (omega (arith, sub (pos word) (pos 3), add (pos word -ℤ pos 3) (pos 3)))

-- ---- words that stand for a mode name it

module _ (direction delta : ℕ) (d : Dir) (z : ℤ) (small : nat_abs z ≤ 3) (dir-is : direction ≡ dir_number d) (word : pos delta ≡ z +ℤ pos 3) where
  directed : directed_mode (dir_of direction) delta ≡ Ok (Directional d z)
  directed =
      ap (λ n. directed_mode (dir_of n) delta) dir-is
      ∙ ap (λ f. directed_mode f delta) (dir-there d)
      ∙ ap (λ t. cond t (Ok (Directional d (delta_of delta))) (Err BadMode)) (word-most delta z small word)
      ∙ ap (λ x. Ok (Directional d x)) (delta-is delta z word)

pub mode-there : (mode direction delta : ℕ) (m : Mode) → DeltaInRange m → StandFor mode direction delta m → named_mode mode direction delta ≡ Ok m
unfolding named_mode
mode-there mode direction delta Paeth r e = rw e
mode-there mode direction delta Smooth r e = rw e
mode-there mode direction delta SmoothV r e = rw e
mode-there mode direction delta SmoothH r e = rw e
mode-there mode direction delta (Directional d z) r e = rw e.0 (directed direction delta d z r e.1 e.2)

-- ---- and words that name a mode stand for it

none : {A : Type 0} (r : Refusal) (e : Mode) → ◌≡◌ {A = Result Mode Refusal} (Err r) (Ok e) → A
none r e h = absurd (err-ok r e h)

module _ (mode direction delta : ℕ) where
  abbrev Stands : Mode → Type 0
  Stands m = StandFor mode direction delta m × DeltaInRange m

  -- a mode that was found
  found : (a e : Mode) → Stands a → ◌≡◌ {A = Result Mode Refusal} (Ok a) (Ok e) → Stands e
  found a e s h = subst Stands (ok-same a e h) s

  directed-back : (f : Result Dir Refusal) (e : Mode) → mode ≡ direction_mode → dir_of direction ≡ f → directed_mode f delta ≡ Ok e → Stands e
  directed-back (Ok d) e m q h = go (is_delta delta) refl h
    where
      go : (t : Bool) → is_delta delta ≡ t → cond t (Ok (Directional d (delta_of delta))) (Err BadMode) ≡ Ok e → Stands e
      go true t h = found _ e ((m, sym (dir-back direction d q), word-is delta), delta-small delta t) h
      go false t h = none BadMode e h
  directed-back (Err r) e m q h = none r e h

  -- one case of the lookup
  case : (e : Mode) (n : ℕ) (this later : Result Mode Refusal) → (mode ≡ n → this ≡ Ok e → Stands e) → (later ≡ Ok e → Stands e)
      → cond (eqb mode n) this later ≡ Ok e → Stands e
  case e n this later here after = go (eqb mode n) refl
    where
      go : (t : Bool) → eqb mode n ≡ t → cond t this later ≡ Ok e → Stands e
      go true q h = here (eqb-true mode n q) h
      go false q h = after h

  pub mode-back : (m : Mode) → named_mode mode direction delta ≡ Ok m → StandFor mode direction delta m × DeltaInRange m
  unfolding named_mode
  mode-back m =
      case m 0 _ _ (λ q. found Paeth m (q, tt)) (case m 1 _ _ (λ q. found Smooth m (q, tt)) (case m 2 _ _ (λ q. found SmoothV m (q, tt))
      (case m 3 _ _ (λ q. found SmoothH m (q, tt)) (case m direction_mode _ (Err BadMode) (λ q. directed-back (dir_of direction) m q refl) (none BadMode m)))))
