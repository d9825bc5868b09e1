-- How many places count, and what follows where none does. Assumes nothing.
use mathlib.Core.Path.{◌≡◌, refl, ◌∙◌, ap}
use mathlib.Core.Bool.{true, ◌&&◌}
use Prim.Native.Nat.{ℕ, zero, suc, ◌+◌, ◌-◌, ◌*◌, ◌≤◌}
use native.Mathlib.Nat as N
use native.Mathlib.Omega.{arith}
use lib.IntN.{ℤ}
use Rattle.numbers.specs.declared.colour.ColourDirection.{ColourDirection}
use Rattle.colour_samples.specs.Sample.{in_range_at}
use Rattle.colour_samples.specs.Nine.{none}
use Rattle.colour_lines.specs.Fold.{fold}
use Rattle.colour_sums.specs.declared.window.Window.{Window}
use Rattle.colour_sums.specs.Places.{walk, wide, high, rows_above, few, walk_block, walk_above, walk_below}
use Rattle.colour_sums.specs.Sum.{one_more, sums_of, count_of, is_readable}
use Rattle.colour_sums.proofs.Walks.{rows_both}
use Rattle.colour_sums.proofs.Runs.{walk_is}

fold-count : (n c : ℕ) → fold n (λ k m. m + 1) c ≡ c + n
unfolding fold
fold-count zero c = omega arith
fold-count (suc n) c = omega (arith, fold-count n c)

block-count : (m r n c : ℕ) → walk_block m r n (λ x y k. k + 1) c ≡ c + r * n
unfolding fold
block-count m zero n c = omega arith
block-count m (suc r) n c = fold-count n (walk_block m r n (λ x y k. k + 1) c) ∙ omega (arith, block-count m r n c)

pub count-is : (w : Window) → count_of w ≡ rows_above w * wide w + (high w - rows_above w) * few w
unfolding walk_above walk_below
count-is w =
    walk_is w (λ x y k. k + 1) 0
    ∙ block-count (rows_above w) (high w - rows_above w) (few w) (walk_above w (λ x y k. k + 1) 0)
    ∙ ap (λ k. k + (high w - rows_above w) * few w) (block-count 0 (rows_above w) (wide w) 0 ∙ first)
  where
    first : 0 + rows_above w * wide w ≡ rows_above w * wide w
    first = omega arith

-- the two products
pub few-rows : (w : Window) → w.ref_width ≤ 256 → w.ref_height ≤ 256
    → (rows_above w * wide w ≤ 65536) × ((high w - rows_above w) * few w ≤ 65536) × (rows_above w * wide w + (high w - rows_above w) * few w ≤ 65536)
few-rows w hw hh =
    let a : rows_above w * wide w ≤ rows_above w * 254 = N.mul-le-mul (N.le_refl (rows_above w)) (omega arith) in
    let b : (high w - rows_above w) * few w ≤ (high w - rows_above w) * 254 = N.mul-le-mul (N.le_refl (high w - rows_above w)) (omega arith) in
    (omega arith, omega arith, omega arith)

pub count_most : (w : Window) → w.ref_width ≤ 256 → w.ref_height ≤ 256 → count_of w ≤ 65536
count_most w hw hh = rw (count-is w) (few-rows w hw hh).2

-- ---- none counts
module _ (D M : ℕ) (direction : ColourDirection) (luma chroma : ℕ → ℕ → ℤ) (w : Window) (z : count_of w ≡ 0) where
  pub none-readable : is_readable M direction luma chroma w ≡ true
  unfolding walk
  none-readable =
      rows_both (λ n ok. n ≡ 0 → ok ≡ true) w (λ x y n. n + 1) (λ x y ok. ok && in_range_at M direction luma chroma x y)
      (λ x y c n ok h e. absurd (omega arith)) w.ref_height 0 true (λ e. refl) z

  pub none-summed : sums_of D direction luma chroma w ≡ none
  unfolding walk
  none-summed =
      rows_both (λ n s. n ≡ 0 → s ≡ none) w (λ x y n. n + 1) (one_more D direction luma chroma)
      (λ x y c n s h e. absurd (omega arith)) w.ref_height 0 none (λ e. refl) z
