-- A walk looks at the places that count and at no other: two that do the same there are one. So are the test of a window and its sums, for luma and
-- chroma that agree at those places and, for luma, where the direction looks from them. Assumes nothing.
use mathlib.Core.Path.{◌≡◌, refl, ◌∙◌, ap}
use mathlib.Core.Bool.{Bool, true, ◌&&◌}
use Prim.Native.Nat.{ℕ}
use native.Mathlib.Omega.{arith}
use lib.IntN.{ℤ, nat_abs}
use Rattle.numbers.specs.declared.colour.ColourDirection.{ColourDirection}
use Rattle.colour_samples.specs.Nine.{none, added}
use Rattle.colour_samples.specs.Sample.{direction_luma, in_range, in_range_at, terms}
use Rattle.colour_sums.specs.declared.window.Window.{Window}
use Rattle.colour_sums.specs.Places.{counts, walk}
use Rattle.colour_sums.specs.Sum.{one_more, sums_of, is_readable}
use Rattle.colour_sums.proofs.Walks.{rows_both, rows_true}
use Rattle.colour_sums.proofs.Counted.{counted}

pub walk_same : {A : Type 0} (w : Window) (f g : ℕ → ℕ → A → A) → ((x y : ℕ) → counts w x y ≡ true → (a : A) → f x y a ≡ g x y a)
    → (a : A) → walk w f a ≡ walk w g a
unfolding walk
walk_same w f g same a = rows_both (λ b c. b ≡ c) w f g (λ x y e b c h. same x y e b ∙ ap (g x y) h) w.ref_height a a refl

-- ---- a test of every place that counts: what it has shown, and what shows it
pub walk-true : (w : Window) (q : ℕ → ℕ → Bool) → walk w (λ x y ok. ok && q x y) true ≡ true → (x y : ℕ) → counts w x y ≡ true → q x y ≡ true
unfolding walk
walk-true w q e x y c = let p = counted w x y c in rows_true w q w.ref_height e x y (omega arith) (omega arith) c

pub walk-all : (w : Window) (q : ℕ → ℕ → Bool) → ((x y : ℕ) → counts w x y ≡ true → q x y ≡ true) → walk w (λ x y ok. ok && q x y) true ≡ true
unfolding walk
walk-all w q all =
    rows_both (λ ok b. ok ≡ true) w (λ x y ok. ok && q x y) (λ x y b. b) (λ x y c ok b h. rw (h, all x y c)) w.ref_height true true refl

-- ---- the sums of a window, where n is D, and its test, where n is M
module _ (n : ℕ) (direction : ColourDirection) (luma luma' chroma chroma' : ℕ → ℕ → ℤ) (w : Window)
    (way : (x y : ℕ) → counts w x y ≡ true → direction_luma direction luma x y ≡ direction_luma direction luma' x y)
    (centre : (x y : ℕ) → counts w x y ≡ true → luma x y ≡ luma' x y)
    (colour : (x y : ℕ) → counts w x y ≡ true → chroma x y ≡ chroma' x y) where
  pub sums_same : sums_of n direction luma chroma w ≡ sums_of n direction luma' chroma' w
  unfolding one_more
  sums_same = walk_same w _ _ (λ x y c s. λ j. added s (terms n (way x y c j) (centre x y c j)) (nat_abs (colour x y c j))) none

  pub readable-same : is_readable n direction luma chroma w ≡ is_readable n direction luma' chroma' w
  unfolding in_range_at
  readable-same = walk_same w _ _ (λ x y c ok. λ j. ok && in_range n (way x y c j) (centre x y c j) (colour x y c j)) true
