-- A walk goes by rows inside the above lines, and then by the first columns of the rows below them. Assumes nothing.
use mathlib.Core.Path.{◌≡◌, refl, sym, ◌∙◌, ap}
use mathlib.Core.Bool.{true, false, cond}
use mathlib.Core.Logic.{inl, inr, ⊎_elim}
use Prim.Native.Nat.{ℕ, zero, suc, ◌+◌, ◌-◌, ◌≤◌, ◌<◌}
use native.Mathlib.Omega.{arith}
use Rattle.colour_lines.specs.Fold.{fold}
use Rattle.colour_lines.proofs.Folds.{fold-none, fold-suc, fold-past, fold-shift}
use Rattle.colour_sums.specs.Places.{counts, row, walk, wide, high, rows_above, few, walk_block, walk_above, walk_below}
use Rattle.colour_sums.specs.declared.window.Window.{Window}
use Rattle.signed.proofs.Naturals.{either}
use Rattle.colour_sums.proofs.Counted.{no-column, no_row, in-above, past-above, in-below, past-below}

module _ {A : Type 0} (w : Window) (f : ℕ → ℕ → A → A) where
  abbrev step : ℕ → ℕ → A → A
  step y x b = cond (counts w x y) (f x y b) b

  idle : (y : ℕ) → ((x : ℕ) → counts w x y ≡ false) → (a : A) → row w f y a ≡ a
  unfolding row
  idle y out a =
      fold-past (step y) a 0 w.ref_width (omega arith) (λ x l b. ap (λ t. cond t (f x y b) b) (out x)) ∙ fold-none (step y) a

  -- a row of which n columns count
  run : (y n : ℕ) → n ≤ wide w → ((k : ℕ) → k < n → counts w (suc k) y ≡ true) → ((x : ℕ) → n < x → counts w x y ≡ false)
      → (a : A) → row w f y a ≡ fold n (λ k b. f (suc k) y b) a
  unfolding row
  run y n h inner outer a = ⊎_elim narrow broad (either w.ref_width n)
    where
      broad : n < w.ref_width → fold w.ref_width (step y) a ≡ fold n (λ k b. f (suc k) y b) a
      broad l =
          fold-past (step y) a (suc n) w.ref_width l (λ x m b. ap (λ t. cond t (f x y b) b) (outer x m))
          ∙ fold-shift (step y) (λ k b. f (suc k) y b) a n
          (λ b. ap (λ t. cond t (f 0 y b) b) (no-column w 0 y (inl refl)))
          (λ k m b. ap (λ t. cond t (f (suc k) y b) b) (inner k m))

      narrow : w.ref_width ≤ n → fold w.ref_width (step y) a ≡ fold n (λ k b. f (suc k) y b) a
      narrow l =
          let e : w.ref_width ≡ 0 = omega arith in
          let z : n ≡ 0 = omega arith in
          ap (λ m. fold m (step y) a) e ∙ fold-none (step y) a ∙ sym (ap (λ m. fold m (λ k b. f (suc k) y b) a) z ∙ fold-none (λ k b. f (suc k) y b) a)

  abbrev lower : ℕ → A → A
  lower j b = fold (few w) (λ i c. f (suc i) (suc (rows_above w + j)) c) b

  above_rows : (m : ℕ) → m ≤ rows_above w → (a : A) → fold (suc m) (row w f) a ≡ walk_block 0 m (wide w) f a
  above_rows zero h a =
      fold-suc 0 (row w f) a ∙ idle 0 (λ x. no_row w x 0 (inl refl)) (fold 0 (row w f) a) ∙ fold-none (row w f) a ∙ sym (fold-none _ a)
  above_rows (suc m) h a =
      fold-suc (suc m) (row w f) a
      ∙ run (suc m) (wide w) (omega arith) (λ k l. in-above w m k h l) (λ x l. past-above w (suc m) x l) _
      ∙ (λ j. fold (wide w) (λ i c. f (suc i) (suc (first j)) c) (above_rows m (omega arith) a j))
      ∙ sym (fold-suc m _ a)
    where
      first : m ≡ 0 + m
      first = omega arith

  below_rows : (m : ℕ) → m ≤ high w - rows_above w → (a : A) → fold (suc (rows_above w + m)) (row w f) a ≡ fold m lower (walk_above w f a)
  unfolding walk_above
  below_rows zero h a =
      let e : suc (rows_above w + 0) ≡ suc (rows_above w) = omega arith in
      ap (λ n. fold n (row w f) a) e ∙ above_rows (rows_above w) (omega arith) a ∙ sym (fold-none lower _)
  below_rows (suc m) h a =
      let e : suc (rows_above w + suc m) ≡ suc (suc (rows_above w + m)) = omega arith in
      ap (λ n. fold n (row w f) a) e
      ∙ fold-suc (suc (rows_above w + m)) (row w f) a
      ∙ run (suc (rows_above w + m)) (few w) (omega arith) (λ k l. in-below w (rows_above w + m) k (omega arith) l)
      (λ x l. past-below w (rows_above w + m) x (omega arith) (omega arith) l) _
      ∙ ap (lower m) (below_rows m (omega arith) a)
      ∙ sym (fold-suc m lower _)

  pub walk_is : (a : A) → walk w f a ≡ walk_below w f (walk_above w f a)
  unfolding walk walk_below
  walk_is a =
      ⊎_elim
      (λ l. fold-past (row w f) a (suc n) w.ref_height l (λ k m b. idle k (λ x. no_row w x k (inr (omega arith))) b))
      (λ l. sym (fold-past (row w f) a w.ref_height (suc n) (omega arith) (λ k m b. idle k (λ x. no_row w x k (inr (omega arith))) b)))
      (either (suc n) w.ref_height)
      ∙ below_rows (high w - rows_above w) (omega arith) a
    where
      n : ℕ
      n = rows_above w + (high w - rows_above w)
