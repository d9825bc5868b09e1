-- Laws of a walk, for whatever is walked along: a relation that every step keeps, a test of every place. Assumes nothing.
use mathlib.Core.Path.{◌≡◌, refl, sym}
use mathlib.Core.Bool.{Bool, true, false, cond, ◌&&◌, true≢false}
use mathlib.Core.Logic.{⊎_elim}
use Prim.Native.Nat.{ℕ, zero, suc, ◌<◌}
use native.Mathlib.Nat.{eq-or-lt_of_le, le_of_suc-le-suc}
use native.Mathlib.Omega.{arith}
use Rattle.signed.proofs.Range.{and_both}
use Rattle.colour_lines.specs.Fold.{fold}
use Rattle.colour_lines.proofs.Folds.{fold-both}
use Rattle.colour_sums.specs.Places.{counts, row}
use Rattle.colour_sums.specs.declared.window.Window.{Window}

-- a relation that every step keeps
module _ {A B : Type 0} (R : A → B → Type 0) (w : Window) (f : ℕ → ℕ → A → A) (g : ℕ → ℕ → B → B) (keep : (x y : ℕ) → counts w x y ≡ true → (a : A) (b : B) → R a b → R (f x y a) (g x y b)) where
  row-both : (y : ℕ) (a : A) (b : B) → R a b → R (row w f y a) (row w g y b)
  unfolding row
  row-both y a b r = fold-both R w.ref_width _ _ (λ x l c d s. go x c d s (counts w x y) refl) a b r
    where
      go : (x : ℕ) (c : A) (d : B) → R c d → (t : Bool) → counts w x y ≡ t → R (cond t (f x y c) c) (cond t (g x y d) d)
      go x c d s true e = keep x y e c d s
      go x c d s false e = s

  pub rows_both : (j : ℕ) (a : A) (b : B) → R a b → R (fold j (row w f) a) (fold j (row w g) b)
  rows_both j a b r = fold-both R j (row w f) (row w g) (λ y l c d s. row-both y c d s) a b r

-- ---- a test of every place
-- what a test of every place that counts has shown
fold-true : (c q : ℕ → Bool) (n : ℕ) (b : Bool) → fold n (λ k ok. cond (c k) (ok && q k) ok) b ≡ true
    → (b ≡ true) × ((k : ℕ) → k < n → c k ≡ true → q k ≡ true)
unfolding fold
fold-true c q zero b e = (e, λ k l. absurd (omega arith))
fold-true c q (suc n) b e =
    let all : Bool = fold n (λ k ok. cond (c k) (ok && q k) ok) b in
    let last = step (c n) (q n) all e in
    let before = fold-true c q n b last.0 in
    (before.0, λ k l. ⊎_elim (λ (s : k ≡ n). rw s last.1) (before.1 k) (eq-or-lt_of_le (le_of_suc-le-suc l)))
  where
    step : (t u v : Bool) → cond t (v && u) v ≡ true → (v ≡ true) × (t ≡ true → u ≡ true)
    step true u v h = let p = and_both v u h in (p.0, λ z. p.1)
    step false u v h = (h, λ z. absurd (true≢false (sym z)))

pub rows_true : (w : Window) (q : ℕ → ℕ → Bool) (j : ℕ) → fold j (row w (λ x y ok. ok && q x y)) true ≡ true
    → (x y : ℕ) → x < w.ref_width → y < j → counts w x y ≡ true → q x y ≡ true
unfolding fold row
rows_true w q zero e x y hx hy c = absurd (omega arith)
rows_true w q (suc j) e x y hx hy c =
    let p = fold-true (λ k. counts w k j) (λ k. q k j) w.ref_width (fold j (row w (λ x y ok. ok && q x y)) true) e in
    ⊎_elim
    (λ (s : y ≡ j). rw s (p.1 x hx (rw s at c)))
    (λ (l : y < j). rows_true w q j p.0 x y hx l c)
    (eq-or-lt_of_le (le_of_suc-le-suc hy))
