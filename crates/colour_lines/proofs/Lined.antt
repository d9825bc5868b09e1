-- A line of places taken the fast way: what holds after i of them, one place more, and what the totals take. Assumes nothing.
use mathlib.Core.Path.{◌≡◌, sym, ◌∙◌, subst}
use mathlib.Core.Bool.{Bool, true, ◌&&◌}
use mathlib.Core.List.{List}
use Prim.Native.Nat.{ℕ, ◌+◌, ◌*◌, ◌≤◌}
use native.Mathlib.Omega.{arith}
use lib.IntN.{ℤ, nat_abs}
use mir.Syntax.{w32}
use mir.Val.{of_z}
use Rattle.numbers.specs.Depth.{most}
use Rattle.signed.proofs.Naturals.{low-most}
use Rattle.colour_terms.specs.Terms.{middle}
use Rattle.colour_terms.proofs.Most.{middle-most}
use Rattle.colour_samples.specs.declared.nine.Nine.{Nine}
use Rattle.colour_samples.specs.declared.sample.Sample.{Sample}
use Rattle.colour_samples.specs.declared.seen.Seen.{Seen}
use Rattle.colour_samples.specs.declared.totals.Totals.{Totals}
use Rattle.colour_samples.specs.Sample.{in_range, terms}
use Rattle.colour_samples.specs.Nine.{added, NineMost}
use Rattle.colour_samples.specs.Way.{low, low_terms, all_in, Met}
use Rattle.colour_samples.proofs.Ranges.{most-small}
use Rattle.colour_samples.proofs.Low.{low-terms-most}
use Rattle.colour_samples.proofs.OneSample.{met-parts, sample-is}
use Rattle.colour_lines.specs.Fold.{fold}
use Rattle.colour_lines.specs.Fast.{Sums, no_place, line_added, with_line, LineMost}
use Rattle.colour_lines.specs.TookLines.{sample_at, read_at, more_at, TookLine}
use Rattle.colour_lines.proofs.Folds.{fold-none, fold_next}
use Rattle.colour_lines.proofs.LineLaws.{line_taken, line-nothing, line-empty, line-added, line-grown}

module _ (D : ℕ) (luma chroma : List ℤ) (q p step : ℕ) (g : Totals) where
  abbrev test : ℕ → Bool → Bool
  test k ok = read_at (most D) luma chroma (q + k * step) (p + k * step) ok

  abbrev more : ℕ → Nine → Nine
  more k s = more_at D luma chroma (q + k * step) (p + k * step) s

  -- after i of its places
  pub record InLine (i : ℕ) (seen : Seen) (line : Sums) : Type 0 where
    pub tested : all_in (most D) seen ≡ fold i test (all_in (most D) g.seen)
    pub kept : all_in (most D) seen ≡ true → all_in (most D) g.seen ≡ true
    pub summed : all_in (most D) seen ≡ true → with_line (middle D) g.sums line ≡ fold i more g.sums
    pub few : LineMost i line

  pub line-start : InLine 0 g.seen no_place
  line-start = record {
    tested = sym (fold-none test _);
    kept = λ h. h;
    summed = λ h. line-nothing (middle D) g.sums ∙ sym (fold-none more _);
    few = line-empty;
  }

module _ (D : ℕ) (one : 1 ≤ D) (twelve : D ≤ 12) (luma chroma : List ℤ) (q p step : ℕ) (g : Totals) where
  -- a place of the line more
  pub line-more : (i : ℕ) (s : Sample) (seen seen' : Seen) (line : Sums) → InLine D luma chroma q p step g i seen line
      → s ≡ sample_at luma chroma (q + i * step) (p + i * step) → Met s.own s.centre s.chroma seen seen'
      → InLine D luma chroma q p step g (i + 1) seen' (line_added line (low_terms D s.own s.centre) (low s.chroma))
  line-more i s seen seen' line h e m =
      let parts = met-parts D one twelve s.own s.centre s.chroma seen seen' m in
      record {
        tested =
            m D twelve ∙ (λ j. h.tested j && in_range (most D) (e j).own (e j).centre (e j).chroma) ∙ sym (fold_next i (test D luma chroma q p step g) _);
        kept = λ y. h.kept (parts y).0;
        summed = λ y.
            line_taken g.sums line (low_terms D s.own s.centre) (low s.chroma)
            ∙ sample-is D one twelve s.own s.centre s.chroma seen seen' m (with_line (middle D) g.sums line) y
            ∙ (λ j. added (h.summed (parts y).0 j) (terms D (e j).own (e j).centre) (nat_abs (e j).chroma))
            ∙ sym (fold_next i (more D luma chroma q p step g) _);
        few = line-added h.few (low-terms-most D one twelve s.own s.centre) (low-most (of_z w32 s.chroma));
      }

  -- the totals with the whole line
  pub line-took : {n : ℕ} {seen : Seen} {line : Sums} {s : Nine} → InLine D luma chroma q p step g n seen line
      → s ≡ with_line (middle D) g.sums line → TookLine D luma chroma q p n step g (record { seen = seen; sums = s })
  line-took {n} {seen} {line} {s} h e = record {
    tested = h.tested;
    kept = h.kept;
    summed = λ y. e ∙ h.summed y;
    grown = λ b m.
        subst (NineMost (b + n * (4095 * 4095))) (sym e)
        (line-grown (omega (arith, middle-most D one, most-small D twelve)) m h.few);
  }
