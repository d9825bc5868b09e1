-- Blocks: a row that is lent comes back as one more row of the block; four stores fill a row of four; what a contract's `block` says, place by
-- place. Assumes nothing.
use mathlib.Core.Path.{◌≡◌, ◌∙◌, ap}
use mathlib.Core.List.{List, [], ◌∷◌}
use Prim.Native.Nat.{ℕ, zero, suc, ◌+◌, ◌*◌, ◌-◌, ◌/◌, ◌%◌, ◌<◌, ◌≤◌}
use native.Mathlib.Nat.{div-add-mod', div-lt_iff_lt-mul, mod-lt}
use native.Mathlib.Omega.{arith}
use lib.Arith.{digits_div, digits_mod, digits_lt}
use lib.IntN.{ℤ}
use lib.Ieee.{Float, nan}
use lib.ListN.{length, get_or, set, take, drop, length-take, length-drop}
use borrow.Rule.Slice.PartMut.{put_mid}
use Rattle.lists.specs.Fill.{tab, filled}
use Rattle.lists.specs.Block.{rows, sample, block}
use Rattle.lists.proofs.Fill.{filled-part, length-filled, filled_at, filled-past, filled-same}

wide : (h w i : ℕ) → i < h * w → 0 < w
wide h zero i l = absurd (omega arith)
wide h (suc w) i l = omega arith

module _ {A : Type 0} where
  -- a part that is lent, `&mut xs[m..m + n]`
  pub part_length : (m n : ℕ) (xs : List A) → m + n ≤ length xs → length (take (m + n - m) (drop m xs)) ≡ n
  part_length m n xs h = simp (length-take, length-drop) (omega arith)

  -- row r, which starts at o: ys is the list so far, and row what the part holds at the end
  pub filled_row : (w r o : ℕ) (f : ℕ → ℕ → A) (g : ℕ → A) (xs ys row : List A) → o ≡ r * w → o + w ≤ length ys → ys ≡ filled o (rows w f) xs
      → row ≡ tab (length (take (o + w - o) (drop o ys))) g → ((i : ℕ) → i < w → g i ≡ f r i)
      → put_mid o (o + w - o) ys row ≡ filled (o + w) (rows w f) xs
  filled_row w r o f g xs ys row h room e u same =
      filled-part o (o + w) (rows w f) g xs ys row (omega arith) room e u
      (λ i l. there i (omega arith))
    where
      there : (i : ℕ) → i < w → g i ≡ rows w f (o + i)
      there i l = rw (h, digits_div r {m = w} {r = i} l, digits_mod r {m = w} {r = i} l) (same i l)

  -- k rows that are lent from row r on, `&mut xs[o..e]`
  pub filled-rows : (w k r o e : ℕ) (f g : ℕ → ℕ → A) (xs ys part : List A) → o ≡ r * w → e ≡ o + k * w → e ≤ length ys → ys ≡ filled o (rows w f) xs
      → part ≡ tab (length (take (e - o) (drop o ys))) (rows w g) → ((j c : ℕ) → j < k → c < w → g j c ≡ f (r + j) c)
      → put_mid o (e - o) ys part ≡ filled e (rows w f) xs
  filled-rows w k r o e f g xs ys part h t room u v same =
      filled-part o e (rows w f) (rows w g) xs ys part (omega arith) room u v (λ i l. there i (omega arith))
    where
      there : (i : ℕ) → i < k * w → rows w g i ≡ rows w f (o + i)
      there i l =
          let p = wide k w i l in
          let x : o + i ≡ (r + i / w) * w + i % w = rw h (omega (arith, div-add-mod' i w)) in
          rw (x, digits_div (r + i / w) {m = w} {r = i % w} (mod-lt i p), digits_mod (r + i / w) {m = w} {r = i % w} (mod-lt i p))
          (same (i / w) (i % w) ((div-lt_iff_lt-mul p).1 l) (mod-lt i p))

  -- what stands at row r and column c
  pub rows_at : (w n : ℕ) (f : ℕ → ℕ → A) (xs : List A) (r c : ℕ) (d : A) → r < n → c < w → get_or (filled (n * w) (rows w f) xs) (r * w + c) d ≡ f r c
  rows_at w n f xs r c d hr hc =
      filled_at (n * w) (rows w f) xs (r * w + c) d (digits_lt hr hc)
      ∙ rw (digits_div r {m = w} {r = c} hc, digits_mod r {m = w} {r = c} hc)

  -- two that agree at the places of n rows agree at their entries
  pub rows_same : (w n : ℕ) (f g : ℕ → ℕ → A) → ((r c : ℕ) → r < n → c < w → f r c ≡ g r c) → (i : ℕ) → i < n * w → rows w f i ≡ rows w g i
  rows_same w n f g same i l = same (i / w) (i % w) ((div-lt_iff_lt-mul (wide n w i l)).1 l) (mod-lt i (wide n w i l))

  -- four stores fill a list of four
  pub four-stores : (f : ℕ → A) (xs : List A) (x y z u : A) → length xs ≡ 4 → x ≡ f 0 → y ≡ f 1 → z ≡ f 2 → u ≡ f 3
      → set (set (set (set xs 0 x) 1 y) 2 z) 3 u ≡ tab (length xs) f
  unfolding tab
  four-stores f (a ∷ b ∷ c ∷ d ∷ []) x y z u n p q r s = λ j. p j ∷ q j ∷ r j ∷ s j ∷ []
  four-stores f [] x y z u n p q r s = absurd (omega arith)
  four-stores f (a ∷ []) x y z u n p q r s = absurd (omega arith)
  four-stores f (a ∷ b ∷ []) x y z u n p q r s = absurd (omega arith)
  four-stores f (a ∷ b ∷ c ∷ []) x y z u n p q r s = absurd (omega arith)
  four-stores f (a ∷ b ∷ c ∷ d ∷ e ∷ xs) x y z u n p q r s = absurd (omega arith)

-- ---- what a contract's `block` says
module _ (w h : ℕ) (p : ℕ → ℕ → ℤ) (out : List Float) where
  pub block-length : h * w ≤ length out → length (block w h p out) ≡ length out
  unfolding block
  block-length l = length-filled (h * w) _ out l

  pub block-at : (r c : ℕ) → r < h → c < w → get_or (block w h p out) (r * w + c) nan ≡ sample (p r c)
  unfolding block
  block-at r c hr hc = rows_at w h (λ i j. sample (p i j)) out r c nan hr hc

  pub block-past : (i : ℕ) → h * w ≤ i → get_or (block w h p out) i nan ≡ get_or out i nan
  unfolding block
  block-past i l = filled-past (h * w) _ out i nan l

-- two predictors that agree at the block's places write the same block
pub block_same : (w h : ℕ) (p q : ℕ → ℕ → ℤ) (out : List Float) → ((r c : ℕ) → r < h → c < w → p r c ≡ q r c) → block w h p out ≡ block w h q out
unfolding block
block_same w h p q out same =
    filled-same (h * w) _ _ out (rows_same w h (λ r c. sample (p r c)) (λ r c. sample (q r c)) (λ r c k l. ap sample (same r c k l)))
