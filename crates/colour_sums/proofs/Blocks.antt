-- Rows of a window, from row m + 1 on, with n columns each from column 1 on, as lines of entries: by rows, or by columns. Assumes nothing.
use mathlib.Core.Path.{◌≡◌, sym, ◌∙◌, ap}
use mathlib.Core.Bool.{Bool, ◌&&◌}
use mathlib.Core.List.{List}
use Prim.Native.Nat.{ℕ, suc, ◌+◌, ◌-◌, ◌*◌, ◌≤◌, ◌<◌}
use native.Mathlib.Omega.{arith}
use lib.IntN.{ℤ, pos, nat_abs}
use lib.ListN.{length, get_or}
use Rattle.numbers.specs.declared.colour.ColourDirection.{ColourDirection}
use Rattle.colour_terms.specs.Terms.{entry}
use Rattle.colour_samples.specs.declared.nine.Nine.{Nine}
use Rattle.colour_samples.specs.Sample.{direction_luma, in_range, in_range_at, terms}
use Rattle.colour_samples.specs.Way.{behind}
use Rattle.colour_samples.specs.Nine.{added}
use Rattle.colour_samples.proofs.Ranges.{luma-at, behind-most}
use Rattle.colour_lines.specs.Fold.{fold}
use Rattle.colour_lines.specs.Held.{Grid}
use Rattle.colour_lines.specs.TookLines.{read_at, more_at, over_lines}
use Rattle.colour_lines.proofs.Folds.{fold_same}
use Rattle.colour_sums.specs.Sum.{one_more}
use Rattle.colour_sums.specs.AsLines.{readable, by_rows, by_columns}

-- the rows stand in the lists
pub record Block (m r n : ℕ) (luma chroma : List ℤ) : Type 0 where
  pub rows : m + r ≤ 254
  pub columns : n ≤ 254
  pub luma-long : (j : ℕ) → j < r → suc (suc (m + j)) * 256 ≤ length luma
  pub chroma-long : (j : ℕ) → j < r → suc (suc (m + j)) * 256 ≤ length chroma

module _ (m r n : ℕ) (direction : ColourDirection) (luma chroma : List ℤ) where
  abbrev back : ℕ
  back = behind direction

  pub rows-grid : Block m r n luma chroma → Grid (by_rows m r n) back luma chroma
  rows-grid b = record {
    before = omega (arith, (behind-most direction).2);
    few = omega (arith, b.rows);
    short = b.columns;
    line = λ j l. record {
      before = omega arith;
      near = omega (arith, b.rows);
      short = b.columns;
      reads = λ i k. (omega (arith, b.rows, b.columns), omega (arith, b.luma-long j l, b.columns), omega (arith, b.chroma-long j l, b.columns));
    };
  }

  pub columns-grid : Block m r n luma chroma → Grid (by_columns m r n) back luma chroma
  columns-grid b = record {
    before = omega (arith, (behind-most direction).2);
    few = b.columns;
    short = omega (arith, b.rows);
    line = λ j l. record {
      before = omega arith;
      near = omega (arith, b.rows, b.columns);
      short = omega (arith, b.rows);
      reads = λ i k. (omega (arith, b.rows, b.columns), omega (arith, b.luma-long i k, b.columns), omega (arith, b.chroma-long i k, b.columns));
    };
  }

  -- ---- a place by its entries
  module _ (q p x y : ℕ) (hx : 1 ≤ x) (hy : 1 ≤ y) (e : p ≡ y * 256 + x) (d : q ≡ y * 256 + x - back) where
    v-is : get_or luma q (pos 0) ≡ direction_luma direction (entry luma) x y
    v-is = ap (λ k. get_or luma k (pos 0)) d ∙ sym (luma-at direction luma x y hx hy)

    c-is : (xs : List ℤ) → get_or xs p (pos 0) ≡ entry xs x y
    c-is xs = ap (λ k. get_or xs k (pos 0)) e

    pub read_is : (M : ℕ) (ok : Bool) → read_at M luma chroma q p ok ≡ readable M direction (entry luma) (entry chroma) x y ok
    unfolding in_range_at
    read_is M ok = λ j. ok && in_range M (v-is j) (c-is luma j) (c-is chroma j)

    pub more-is : (D : ℕ) (s : Nine) → more_at D luma chroma q p s ≡ one_more D direction (entry luma) (entry chroma) x y s
    unfolding one_more
    more-is D s = λ j. added s (terms D (v-is j) (c-is luma j)) (nat_abs (c-is chroma j))

  -- ---- all places, by rows and by columns
  module _ {A : Type 0} (f g : ℕ → ℕ → A → A) (same : (q p x y : ℕ) → 1 ≤ x → 1 ≤ y → p ≡ y * 256 + x → q ≡ y * 256 + x - back → (a : A) → f q p a ≡ g x y a) where
    pub over-rows : (a : A) → over_lines r (by_rows m r n) back f a ≡ fold r (λ j b. fold n (λ i c. g (suc i) (suc (m + j)) c) b) a
    over-rows =
        fold_same r _ _ (λ j l. fold_same n _ _ (λ i k b. same _ _ (suc i) (suc (m + j)) (omega arith) (omega arith) (omega arith) (omega (arith, (behind-most direction).2)) b))

    pub over-columns : (a : A) → over_lines n (by_columns m r n) back f a ≡ fold n (λ i b. fold r (λ j c. g (suc i) (suc (m + j)) c) b) a
    over-columns =
        fold_same n _ _ (λ i l. fold_same r _ _ (λ j k b. same _ _ (suc i) (suc (m + j)) (omega arith) (omega arith) (omega arith) (omega (arith, (behind-most direction).2)) b))
