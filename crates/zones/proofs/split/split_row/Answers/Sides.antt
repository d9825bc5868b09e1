-- The row of `split_row` about its split: the columns before it, from the strip, and those from it on, from above. Assumes nothing.
use Prim.Native.Nat.{ℕ, ◌≤◌, ◌<◌, ◌+◌, ◌-◌, ◌*◌}
use native.Mathlib.Nat.{zero-add, le_of_eq}
use native.Mathlib.Omega.{arith}
use mathlib.Core.Path.{◌≡◌, refl, sym, ◌∙◌, ap}
use mathlib.Core.Bool.{Bool, cond}
use mathlib.Core.List.{List}
use lib.Dec.{leb}
use lib.ListN.{length, get_or, take, drop}
use lib.IntN.{ℤ, pos}
use lib.Ieee.{Float, nan}
use mir.Syntax.{w32}
use mir.Val.{to_z, of_z, SFits}
use mir.Facts.{to_z-of_z}
use borrow.Author.Tests.{le-leb, lt-leb}
use borrow.Rule.Slice.PartMut.{put_mid}
use Rattle.lists.specs.Fill.{tab, filled}
use Rattle.lists.specs.Block.{sample}
use Rattle.lists.proofs.Fill.{filled_none, filled-part, filled-all, length-filled}
use Rattle.taps.specs.Interp.{between}
use Rattle.zone_rows.specs.Listed.{listed, Holds}
use Rattle.zone_spec.specs.Split.{split_of}

-- `K` columns of the row are before its split
module _ (strip : List Float) (j t : ℕ) (lum : Bool) (m : ℤ) (top : List ℤ) (row : List Float) (K : ℕ)
    (some : 0 < t) (split : K ≡ split_of (length row) t) (holds : Holds (length row + 6) top) (fits : SFits w32 m) where
  -- what stands in the row
  abbrev pub up : ℕ → Float
  up c = sample (listed lum m top (64 * (c + 1) - t))

  abbrev pub aside : ℕ → Float
  aside c = get_or strip (c * 4 + j) nan

  abbrev pub f : ℕ → Float
  f c = cond (leb t (64 * (c + 1))) (up c) (aside c)

  -- the columns before the split
  pub first : (part : List Float) → part ≡ tab (length (take (K - 0) (drop 0 row))) aside → put_mid 0 (K - 0) row part ≡ filled K f row
  first part e =
      filled-part 0 K f aside row row part (omega arith) (omega arith) (sym (filled_none f row)) e
      (λ i h. sym (ap (λ b. cond b (up i) (aside i)) (lt-leb t (64 * (i + 1)) (omega arith))) ∙ ap f (sym (zero-add i)))

  -- those from the split on
  abbrev pub from : ℕ
  from = 64 * (K + 4) - t

  pub from-above : (i : ℕ) → i < length row - K → sample (between lum (to_z w32 (of_z w32 m)) (λ k. get_or top k (pos 0)) (from + 64 * i)) ≡ f (K + i)
  from-above i h =
      (λ j. sample (between lum (to_z-of_z fits j) (λ k. get_or top k (pos 0)) (place j)))
      ∙ sym (ap (λ b. cond b (up (K + i)) (aside (K + i))) (le-leb t (64 * (K + i + 1)) (omega arith)))
    where
      place : from + 64 * i ≡ 64 * (K + i + 1) - t + 192
      place = omega arith

  -- the row, written
  pub aside-only : (part : List Float) → part ≡ tab (length (take (K - 0) (drop 0 row))) aside → length row ≤ K → put_mid 0 (K - 0) row part ≡ tab (length row) f
  aside-only part e h = first part e ∙ filled-all K f row (omega arith)

  pub both : (part more : List Float) → part ≡ tab (length (take (K - 0) (drop 0 row))) aside → K < length row
      → more ≡ tab (length (take (length row - K) (drop K (put_mid 0 (K - 0) row part)))) (λ i. sample (between lum (to_z w32 (of_z w32 m)) (λ k. get_or top k (pos 0)) (from + 64 * i)))
      → put_mid K (length row - K) (put_mid 0 (K - 0) row part) more ≡ tab (length row) f
  both part more e h u =
      let one = first part e in
      filled-part K (length row) f _ row _ _ (omega arith) (le_of_eq (sym (ap length one ∙ length-filled K f row (omega arith)))) one u from-above
      ∙ filled-all (length row) f row refl
