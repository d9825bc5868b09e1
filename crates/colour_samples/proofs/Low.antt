-- The terms of twelve digits: at most 4095 each, and of a sample in range the terms themselves, with D open. Assumes nothing.
use mathlib.Core.Path.{◌≡◌, sym, ◌∙◌, ap, subst}
use mathlib.Core.Bool.{true}
use Prim.Native.Nat.{ℕ, ◌+◌, ◌*◌, ◌/◌, ◌^◌, ◌≤◌}
use native.Mathlib.Omega.{arith}
use lib.IntN.{ℤ, pos, nat_abs}
use mir.Syntax.{w32}
use mir.Val.{of_z}
use Rattle.numbers.specs.Depth.{most}
use Rattle.signed.specs.Range.{inside}
use Rattle.signed.proofs.Range.{inside-abs, inside-more}
use Rattle.signed.proofs.Naturals.{low-most, low-all, low-is}
use Rattle.colour_terms.specs.Terms.{eighth, middle, squared}
use Rattle.colour_terms.proofs.Most.{eighth-in, squared-in, middle-most}
use Rattle.colour_samples.specs.Sample.{in_range, terms}
use Rattle.colour_samples.specs.Nine.{TermsMost}
use Rattle.colour_samples.specs.Way.{low, low_square, low_terms}
use Rattle.colour_samples.proofs.Ranges.{range-parts, squared-nat, most-small}

module _ (D : ℕ) (one : 1 ≤ D) (twelve : D ≤ 12) where
  pub low-terms-most : (v c : ℤ) → TermsMost 4095 (low_terms D v c)
  low-terms-most v c = record {
    own = low-most (of_z w32 (eighth v));
    square = low-most ((low (eighth c) * low (eighth c) + middle D) / 2 ^ D);
    middle = omega (arith, middle-most D one, most-small D twelve);
  }

  -- a number in 0..M has twelve digits
  small : (z : ℤ) → inside (pos (most D)) z ≡ true → inside (pos 4095) z ≡ true
  small z = inside-more (most D) 4095 (most-small D twelve) z

  low-in : (z : ℤ) → inside (pos (most D)) z ≡ true → low z ≡ nat_abs z
  low-in z e = low-is z (small z e)

  module _ (v c k : ℤ) (h : in_range (most D) v c k ≡ true) where
    c-in : inside (pos (most D)) (eighth c) ≡ true
    c-in = eighth-in (most D) c (range-parts (most D) v c k h).1

    square-is : low_square (low (eighth c)) (middle D) D ≡ nat_abs (squared D (eighth c))
    square-is =
        let n = (low (eighth c) * low (eighth c) + middle D) / 2 ^ D in
        let e : n ≡ nat_abs (squared D (eighth c)) =
        ap (λ (m : ℕ). (m * m + middle D) / 2 ^ D) (low-in (eighth c) c-in) ∙ sym (squared-nat D (most D) (eighth c) c-in) in
        let q = inside-abs 4095 _ (small _ (squared-in D (eighth c) one c-in)) in
        low-all n (subst (λ (m : ℕ). m ≤ 4095) (sym e) q) ∙ e

    pub low-terms-are : low_terms D v c ≡ terms D v c
    unfolding terms
    low-terms-are = λ j. record {
      own = low-in (eighth v) (eighth-in (most D) v (range-parts (most D) v c k h).0) j;
      square = square-is j;
      middle = middle D;
    }

    pub low-chroma-is : low k ≡ nat_abs k
    low-chroma-is = low-in k (range-parts (most D) v c k h).2
