-- Which places count: in rows inside the above lines all columns from 1 on, in the rows below them the first few. Assumes nothing.
use mathlib.Core.Path.{◌≡◌, refl}
use mathlib.Core.Bool.{Bool, true, false, ◌&&◌, ◌||◌}
use mathlib.Core.Logic.{◌⊎◌, inl, inr, ⊎_elim}
use Prim.Native.Nat.{ℕ, suc, ◌+◌, ◌≤◌, ◌<◌}
use native.Mathlib.Omega.{arith}
use lib.Dec.{ltb, leb}
use borrow.Author.Tests.{lt-ltb, le-ltb, le-leb, lt-leb, ltb-true, leb-true}
use Rattle.signed.proofs.Range.{and_both}
use Rattle.signed.proofs.Naturals.{either}
use Rattle.colour_sums.specs.Places.{within, counts, wide, high, rows_above, few}
use Rattle.colour_sums.specs.declared.window.Window.{Window}

-- ---- which places count
within-yes : (n i : ℕ) → 1 ≤ i → i + 1 < n → within n i ≡ true
within-yes n i h l = simp (le-leb 1 i h, lt-ltb (i + 1) n l)

and_no : (a b : Bool) → b ≡ false → (a && b) ≡ false
and_no true b e = e
and_no false b e = refl

within-no : (n i : ℕ) → (i ≡ 0) ⊎ (n ≤ i + 1) → within n i ≡ false
within-no n i (inl e) = simp (lt-leb 1 i (omega arith))
within-no n i (inr l) = and_no (leb 1 i) (ltb (i + 1) n) (le-ltb (i + 1) n l)

module _ (w : Window) where
  abbrev W : ℕ
  W = w.ref_width

  abbrev H : ℕ
  H = w.ref_height

  counts-yes : (x y : ℕ) → 1 ≤ x → x + 1 < W → 1 ≤ y → y + 1 < H → (x < w.left_lines) ⊎ (y < w.above_lines) → counts w x y ≡ true
  unfolding counts
  counts-yes x y hx lx hy ly s = simp (within-yes W x hx lx, within-yes H y hy ly) (go s)
    where
      or_yes : (a b : Bool) → b ≡ true → (a || b) ≡ true
      or_yes true b e = refl
      or_yes false b e = e

      go : (x < w.left_lines) ⊎ (y < w.above_lines) → (ltb x w.left_lines || ltb y w.above_lines) ≡ true
      go (inl l) = simp (lt-ltb x w.left_lines l)
      go (inr l) = or_yes (ltb x w.left_lines) (ltb y w.above_lines) (lt-ltb y w.above_lines l)

  pub no-column : (x y : ℕ) → (x ≡ 0) ⊎ (W ≤ x + 1) → counts w x y ≡ false
  unfolding counts
  no-column x y s = simp (within-no W x s)

  pub no_row : (x y : ℕ) → (y ≡ 0) ⊎ (H ≤ y + 1) → counts w x y ≡ false
  unfolding counts
  no_row x y s = simp (and_no (within W x) (within H y) (within-no H y s))

  no_line : (x y : ℕ) → w.left_lines ≤ x → w.above_lines ≤ y → counts w x y ≡ false
  unfolding counts
  no_line x y l k =
      and_no (within W x && within H y) _ (simp (le-ltb x w.left_lines l, le-ltb y w.above_lines k))

  -- a place that counts is inside the window
  pub counted : (x y : ℕ) → counts w x y ≡ true → (1 ≤ x) × (x + 1 < W) × (1 ≤ y) × (y + 1 < H)
  unfolding counts
  counted x y e =
      let p = (and_both (within W x && within H y) _ e).0 in
      let q = and_both (within W x) (within H y) p in
      let a = and_both (leb 1 x) (ltb (x + 1) W) q.0 in
      let b = and_both (leb 1 y) (ltb (y + 1) H) q.1 in
      (leb-true 1 x a.0, ltb-true (x + 1) W a.1, leb-true 1 y b.0, ltb-true (y + 1) H b.1)

  -- ---- rows inside the above lines
  pub in-above : (j k : ℕ) → j < rows_above w → k < wide w → counts w (suc k) (suc j) ≡ true
  in-above j k h l = counts-yes (suc k) (suc j) (omega arith) (omega arith) (omega arith) (omega arith) (inr (omega arith))

  pub past-above : (y x : ℕ) → wide w < x → counts w x y ≡ false
  past-above y x l = no-column x y (inr (omega arith))

  -- ---- rows below them
  pub in-below : (j k : ℕ) → j < high w → k < few w → counts w (suc k) (suc j) ≡ true
  in-below j k h l = counts-yes (suc k) (suc j) (omega arith) (omega arith) (omega arith) (omega arith) (inl (omega arith))

  pub past-below : (j x : ℕ) → rows_above w ≤ j → j < high w → few w < x → counts w x (suc j) ≡ false
  past-below j x h k l =
      ⊎_elim
      (λ (s : w.left_lines ≤ x). no_line x (suc j) s (omega arith))
      (λ (s : x < w.left_lines). no-column x (suc j) (inr (omega arith)))
      (either w.left_lines x)
