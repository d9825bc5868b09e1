-- One sample taken: its values seen, and its terms of twelve digits added, is the sample taken as the document says. Assumes nothing.
use mathlib.Core.Path.{◌≡◌, sym, ◌∙◌, subst}
use mathlib.Core.Bool.{true}
use Prim.Native.Nat.{ℕ, ◌+◌, ◌*◌, ◌≤◌}
use lib.IntN.{ℤ, nat_abs}
use mir.Syntax.{w32}
use mir.Val.{of_z}
use Rattle.numbers.specs.Depth.{most}
use Rattle.signed.proofs.Range.{and_both}
use Rattle.signed.proofs.Naturals.{low-most}
use Rattle.colour_samples.specs.declared.nine.Nine.{Nine}
use Rattle.colour_samples.specs.declared.seen.Seen.{Seen}
use Rattle.colour_samples.specs.declared.totals.Totals.{Totals}
use Rattle.colour_samples.specs.Sample.{in_range, terms}
use Rattle.colour_samples.specs.Nine.{added, NineMost}
use Rattle.colour_samples.specs.Way.{low, low_terms, all_in, Met}
use Rattle.colour_samples.specs.Took.{TookOne}
use Rattle.colour_samples.proofs.Grown.{added-most}
use Rattle.colour_samples.proofs.Low.{low-terms-most, low-terms-are, low-chroma-is}

module _ (D : ℕ) (one : 1 ≤ D) (twelve : D ≤ 12) where
  -- a sample whose values were seen
  module _ (v c k : ℤ) (seen seen' : Seen) (m : Met v c k seen seen') where
    pub met-parts : all_in (most D) seen' ≡ true → (all_in (most D) seen ≡ true) × (in_range (most D) v c k ≡ true)
    met-parts y = and_both (all_in (most D) seen) (in_range (most D) v c k) (sym (m D twelve) ∙ y)

    -- adds what the document says where all is in range
    pub sample-is : (s : Nine) → all_in (most D) seen' ≡ true → added s (low_terms D v c) (low k) ≡ added s (terms D v c) (nat_abs k)
    sample-is s y =
        let h = (met-parts y).1 in
        λ j. added s (low-terms-are D one twelve v c k h j) (low-chroma-is D one twelve v c k h j)

  pub took_one : (v c k : ℤ) (g r : Totals) → Met v c k g.seen r.seen → r.sums ≡ added g.sums (low_terms D v c) (low k) → TookOne D v c k g r
  took_one v c k g r m e = record {
    tested = m D twelve;
    kept = λ y. (met-parts v c k g.seen r.seen m y).0;
    summed = λ y. e ∙ sample-is v c k g.seen r.seen m g.sums y;
    grown = λ b h.
        subst (NineMost (b + 4095 * 4095)) (sym e)
        (added-most 4095 b (low k) g.sums (low_terms D v c) h (low-terms-most D one twelve v c) (low-most (of_z w32 k)));
  }
