-- Laws of steps one after the other: steps that do nothing, steps that do the same, a relation that every step keeps. Assumes nothing.
use mathlib.Core.Path.{◌≡◌, refl, ◌∙◌, ap}
use mathlib.Core.Logic.{⊎_elim}
use Prim.Native.Nat.{ℕ, zero, suc, ◌+◌, ◌≤◌, ◌<◌}
use native.Mathlib.Nat.{eq-or-lt_of_le, le_of_suc-le-suc}
use native.Mathlib.Numerals.{add-one}
use native.Mathlib.Omega.{arith}
use Rattle.colour_lines.specs.Fold.{fold}

module _ {A : Type 0} where
  pub fold-none : (f : ℕ → A → A) (a : A) → fold 0 f a ≡ a
  unfolding fold
  fold-none f a = refl

  pub fold-suc : (n : ℕ) (f : ℕ → A → A) (a : A) → fold (suc n) f a ≡ f n (fold n f a)
  unfolding fold
  fold-suc n f a = refl

  pub fold_next : (n : ℕ) (f : ℕ → A → A) (a : A) → fold (n + 1) f a ≡ f n (fold n f a)
  fold_next n f a = ap (λ k. fold k f a) (add-one n) ∙ fold-suc n f a

  -- steps from n on that do nothing
  pub fold-past : (f : ℕ → A → A) (a : A) (n m : ℕ) → n ≤ m → ((k : ℕ) → n ≤ k → (b : A) → f k b ≡ b) → fold m f a ≡ fold n f a
  fold-past f a n zero h idle = let e : n ≡ 0 = omega arith in rw e
  fold-past f a n (suc m) h idle =
      ⊎_elim
      (λ (e : n ≡ suc m). rw e)
      (λ (l : n < suc m). fold-suc m f a ∙ idle m (le_of_suc-le-suc l) (fold m f a) ∙ fold-past f a n m (le_of_suc-le-suc l) idle)
      (eq-or-lt_of_le h)

  -- step 0 does nothing, and step k + 1 is f's step k
  pub fold-shift : (g f : ℕ → A → A) (a : A) (n : ℕ) → ((b : A) → g 0 b ≡ b) → ((k : ℕ) → k < n → (b : A) → g (suc k) b ≡ f k b)
      → fold (suc n) g a ≡ fold n f a
  unfolding fold
  fold-shift g f a zero none same = none a
  fold-shift g f a (suc n) none same =
      same n (omega arith) (fold (suc n) g a) ∙ ap (f n) (fold-shift g f a n none (λ k l. same k (omega arith)))

  -- steps that do the same
  pub fold_same : (n : ℕ) (f g : ℕ → A → A) → ((k : ℕ) → k < n → (a : A) → f k a ≡ g k a) → (a : A) → fold n f a ≡ fold n g a
  unfolding fold
  fold_same zero f g same a = refl
  fold_same (suc n) f g same a = same n (omega arith) (fold n f a) ∙ ap (g n) (fold_same n f g (λ k l. same k (omega arith)) a)

-- a relation that every step keeps
module _ {A B : Type 0} (R : A → B → Type 0) where
  pub fold-both : (n : ℕ) (f : ℕ → A → A) (g : ℕ → B → B) → ((k : ℕ) → k < n → (a : A) (b : B) → R a b → R (f k a) (g k b))
      → (a : A) (b : B) → R a b → R (fold n f a) (fold n g b)
  unfolding fold
  fold-both zero f g keep a b r = r
  fold-both (suc n) f g keep a b r =
      keep n (omega arith) (fold n f a) (fold n g b) (fold-both n f g (λ k l. keep k (omega arith)) a b r)
