-- The order of two walks makes no difference where the order of two steps makes none. Assumes nothing.
use mathlib.Core.Path.{◌≡◌, refl, sym, ◌∙◌, ap}
use mathlib.Core.Bool.{Bool, true, false, ◌&&◌}
use Prim.Native.Nat.{ℕ, zero, suc, ◌+◌, ◌*◌}
use native.Mathlib.Omega.{arith}
use lib.IntN.{ℤ}
use Rattle.numbers.specs.declared.colour.ColourDirection.{ColourDirection}
use Rattle.colour_samples.specs.declared.nine.Nine.{Nine}
use Rattle.colour_samples.specs.declared.sample.Terms.{Terms}
use Rattle.colour_samples.specs.Nine.{added}
use Rattle.colour_lines.specs.Fold.{fold}
use Rattle.colour_lines.proofs.Folds.{fold-past}
use Rattle.colour_sums.specs.Sum.{one_more}
use Rattle.colour_sums.specs.AsLines.{readable}

module _ {A : Type 0} where
  -- a step that changes places with every step of a walk
  pass : (h : A → A) (g : ℕ → A → A) → ((i : ℕ) (a : A) → g i (h a) ≡ h (g i a)) → (m : ℕ) (a : A) → fold m g (h a) ≡ h (fold m g a)
  unfolding fold
  pass h g e zero a = refl
  pass h g e (suc m) a = ap (g m) (pass h g e m a) ∙ e m (fold m g a)

  -- two walks in one
  merge : (g h : ℕ → A → A) → ((i k : ℕ) (a : A) → g i (h k a) ≡ h k (g i a)) → (m : ℕ) (a : A) → fold m g (fold m h a) ≡ fold m (λ i b. g i (h i b)) a
  unfolding fold
  merge g h e zero a = refl
  merge g h e (suc m) a = ap (g m) (pass (h m) g (λ i b. e i m b) m (fold m h a)) ∙ ap (λ b. g m (h m b)) (merge g h e m a)

  pub fold-swap : (f : ℕ → ℕ → A → A) → ((x y p q : ℕ) (a : A) → f x y (f p q a) ≡ f p q (f x y a)) → (m n : ℕ) (a : A)
      → fold n (λ j b. fold m (λ i c. f i j c) b) a ≡ fold m (λ i b. fold n (λ j c. f i j c) b) a
  unfolding fold
  fold-swap f e m zero a = sym (fold-past (λ i b. b) a 0 m (omega arith) (λ k l b. refl))
  fold-swap f e m (suc n) a =
      ap (fold m (λ i c. f i n c)) (fold-swap f e m n a)
      ∙ merge (λ i c. f i n c) (λ i b. fold n (λ j c. f i j c) b) (λ i k b. sym (pass (λ c. f i n c) (λ j c. f k j c) (λ j c. e k j i n c) n b)) m a

-- ---- tests, and samples
and-swap : (t a b : Bool) → ((t && a) && b) ≡ ((t && b) && a)
and-swap true true true = refl
and-swap true true false = refl
and-swap true false true = refl
and-swap true false false = refl
and-swap false a b = refl

pub readable-swap : (M : ℕ) (direction : ColourDirection) (luma chroma : ℕ → ℕ → ℤ) (x y p q : ℕ) (ok : Bool)
    → readable M direction luma chroma x y (readable M direction luma chroma p q ok) ≡ readable M direction luma chroma p q (readable M direction luma chroma x y ok)
readable-swap M direction luma chroma x y p q ok = and-swap ok _ _

later : (s a b : ℕ) → s + a + b ≡ s + b + a
later s a b = omega arith

added-swap : (s : Nine) (t u : Terms) (y z : ℕ) → added (added s t y) u z ≡ added (added s u z) t y
added-swap s t u y z = λ j. record {
  a00 = later s.a00 (t.own * t.own) (u.own * u.own) j;
  a01 = later s.a01 (t.own * t.square) (u.own * u.square) j;
  a02 = later s.a02 (t.own * t.middle) (u.own * u.middle) j;
  a11 = later s.a11 (t.square * t.square) (u.square * u.square) j;
  a12 = later s.a12 (t.square * t.middle) (u.square * u.middle) j;
  a22 = later s.a22 (t.middle * t.middle) (u.middle * u.middle) j;
  y0 = later s.y0 (t.own * y) (u.own * z) j;
  y1 = later s.y1 (t.square * y) (u.square * z) j;
  y2 = later s.y2 (t.middle * y) (u.middle * z) j;
}

pub more-swap : (D : ℕ) (direction : ColourDirection) (luma chroma : ℕ → ℕ → ℤ) (x y p q : ℕ) (s : Nine)
    → one_more D direction luma chroma x y (one_more D direction luma chroma p q s) ≡ one_more D direction luma chroma p q (one_more D direction luma chroma x y s)
unfolding one_more
more-swap D direction luma chroma x y p q s = added-swap s _ _ _ _
