-- The rectangles of a colour job are exact: a sample is in one of the two of chroma exactly when it is a sample of the chroma window that counts, and
-- in that of luma exactly when it is a sample of the luma window. Assumes nothing.
use mathlib.Core.Path.{◌≡◌, sym, ◌∙◌}
use mathlib.Core.Logic.{◌↔◌, ◌⊎◌, inl, inr}
use mathlib.Core.Bool.{true, true≢false}
use Prim.Native.Nat.{ℕ, zero, suc, ◌+◌, ◌-◌, ◌*◌, ◌≤◌, ◌<◌}
use native.Mathlib.Decide.{dec_lt}
use native.Mathlib.Omega.{arith}
use Rattle.reorder.specs.Rect.{Rect, In}
use Rattle.colour_sums.specs.Places.{counts, wide, high, rows_above, few}
use Rattle.colour_sums.specs.declared.window.Window.{Window}
use Rattle.colour_sums.proofs.Counted.{counted, in-above, in-below, past-below}
use Rattle.colour_words.specs.declared.ColourWords.{ColourWords}
use Rattle.colour_words.specs.Colour.{colour_window, luma_place, chroma_place, luma_rect}
use Rattle.colour_words.specs.Placed.{ColourPlaced}
use Rattle.colour_words.specs.Counted.{above_rect, beside_rect}

-- ---- which places count, by column i and row j
module _ (w : Window) where
  -- any but the outermost columns of a row inside the above lines, and the first columns of a row below them
  abbrev Above : ℕ → ℕ → Type 0
  Above i j = (1 ≤ i) × (i ≤ wide w) × (1 ≤ j) × (j ≤ rows_above w)

  abbrev Below : ℕ → ℕ → Type 0
  Below i j = (1 ≤ i) × (i ≤ few w) × (rows_above w < j) × (j ≤ high w)

  above-counts : (i j : ℕ) → Above i j → counts w i j ≡ true
  above-counts zero j a = absurd (omega arith)
  above-counts (suc i) zero a = absurd (omega arith)
  above-counts (suc i) (suc j) a = in-above w j i (omega arith) (omega arith)

  below-counts : (i j : ℕ) → Below i j → counts w i j ≡ true
  below-counts zero j a = absurd (omega arith)
  below-counts (suc i) zero a = absurd (omega arith)
  below-counts (suc i) (suc j) a = in-below w j i (omega arith) (omega arith)

  counts-parts : (i j : ℕ) → counts w i j ≡ true → Above i j ⊎ Below i j
  counts-parts i zero e = let k = counted w i zero e in absurd (omega arith)
  counts-parts i (suc j) e =
      let k = counted w i (suc j) e in
      elim (dec_lt j (rows_above w)) [
        | yes l ↦ inl (omega arith, omega arith, omega arith, omega arith)
        | no l ↦ elim (dec_lt (few w) i) [
          | yes m ↦ absurd (true≢false (sym e ∙ past-below w j i (omega arith) (omega arith) m))
          | no m ↦ inr (omega arith, omega arith, omega arith, omega arith)
        ]
      ]

-- ---- a sample of a rectangle, by its column and row counted from the corner x, y of a window
counted-from : (W x y : ℕ) (R : Rect) (p : ℕ) → x ≤ R.x → y ≤ R.y → (s : In W R p) → p ≡ (y + (s.row - y)) * W + (x + (s.col - x))
counted-from W x y R p hx hy s =
    let r : s.row ≡ y + (s.row - y) = omega arith in
    let k : s.col ≡ x + (s.col - x) = omega arith in
    s.place ∙ (λ t. r t * W + k t)

module _ (W H : ℕ) (c : ColourWords) (placed : ColourPlaced W H c) (p : ℕ) where
  pub luma-exact : In W (luma_rect c) p ↔ ((i j : ℕ) × (i < c.ref_width) × (j < c.ref_height) × (p ≡ luma_place W c i j))
  luma-exact = (
    λ s. (s.col - c.luma_x, s.row - c.luma_y, omega arith, omega arith, counted-from W _ _ (luma_rect c) p (omega arith) (omega arith) s),
    λ q. record {
      row = c.luma_y + q.1;
      col = c.luma_x + q.0;
      top = omega arith;
      bottom = omega arith;
      left = omega arith;
      right = omega arith;
      place = q.4;
    },
  )

  pub counted-exact : (In W (above_rect c) p ⊎ In W (beside_rect c) p)
      ↔ ((i j : ℕ) × (counts (colour_window c) i j ≡ true) × (p ≡ chroma_place W c i j))
  counted-exact = (to, λ q. from q.0 q.1 (counts-parts w q.0 q.1 q.2) q.3)
    where
      w : Window
      w = colour_window c

      X : ℕ
      X = c.x - c.left_lines

      Y : ℕ
      Y = c.y - c.above_lines

      to : In W (above_rect c) p ⊎ In W (beside_rect c) p → (i j : ℕ) × (counts w i j ≡ true) × (p ≡ chroma_place W c i j)
      to (inl s) = (
        s.col - X,
        s.row - Y,
        above-counts w (s.col - X) (s.row - Y) (omega arith, omega arith, omega arith, omega arith),
        counted-from W X Y (above_rect c) p (omega arith) (omega arith) s,
      )
      to (inr s) = (
        s.col - X,
        s.row - Y,
        below-counts w (s.col - X) (s.row - Y) (omega arith, omega arith, omega arith, omega arith),
        counted-from W X Y (beside_rect c) p (omega arith) (omega arith) s,
      )

      from : (i j : ℕ) → Above w i j ⊎ Below w i j → p ≡ chroma_place W c i j → In W (above_rect c) p ⊎ In W (beside_rect c) p
      from i j (inl a) e =
          inl (record { row = Y + j; col = X + i; top = omega arith; bottom = omega arith; left = omega arith; right = omega arith; place = e })
      from i j (inr a) e =
          inr (record { row = Y + j; col = X + i; top = omega arith; bottom = omega arith; left = omega arith; right = omega arith; place = e })
