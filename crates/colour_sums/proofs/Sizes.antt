-- How large the sums are: each sample in range adds at most M x M to each of the nine, with D open. Assumes nothing.
use mathlib.Core.Path.{◌≡◌}
use mathlib.Core.Bool.{true}
use Prim.Native.Nat.{ℕ, ◌+◌, ◌*◌, ◌≤◌}
use native.Mathlib.Omega.{arith}
use lib.IntN.{ℤ}
use Rattle.numbers.specs.Depth.{most}
use Rattle.numbers.specs.declared.colour.ColourDirection.{ColourDirection}
use Rattle.signed.proofs.Range.{inside-abs}
use Rattle.colour_samples.specs.declared.nine.Nine.{Nine}
use Rattle.colour_samples.specs.Sample.{in_range_at}
use Rattle.colour_samples.specs.Nine.{none, NineMost}
use Rattle.colour_samples.proofs.Ranges.{range-parts, terms-most}
use Rattle.colour_samples.proofs.Grown.{wider, nine-start, added-most}
use Rattle.colour_sums.specs.declared.window.Window.{Window}
use Rattle.colour_sums.specs.Places.{counts, walk}
use Rattle.colour_sums.specs.Sum.{one_more, sums_of, count_of, is_readable}
use Rattle.colour_sums.proofs.Walks.{rows_both, rows_true}
use Rattle.colour_sums.proofs.Counted.{counted}

-- what a readable window has at each place that counts
readable-at : (M : ℕ) (direction : ColourDirection) (luma chroma : ℕ → ℕ → ℤ) (w : Window) → is_readable M direction luma chroma w ≡ true
    → (x y : ℕ) → counts w x y ≡ true → in_range_at M direction luma chroma x y ≡ true
unfolding walk
readable-at M direction luma chroma w e x y c =
    let p = counted w x y c in
    rows_true w (in_range_at M direction luma chroma) w.ref_height e x y (omega arith) (omega arith) c

-- the sample at a place that is readable
step-most : (D : ℕ) (direction : ColourDirection) (luma chroma : ℕ → ℕ → ℤ) (x y b : ℕ) (s : Nine) → 1 ≤ D → in_range_at (most D) direction luma chroma x y ≡ true → NineMost b s
    → NineMost (b + most D * most D) (one_more D direction luma chroma x y s)
unfolding in_range_at one_more
step-most D direction luma chroma x y b s one e n =
    let p = range-parts (most D) _ _ _ e in
    added-most (most D) b _ s _ n (terms-most D _ _ one p.0 p.1) (inside-abs (most D) _ p.2)

pub sums-most : (D : ℕ) (direction : ColourDirection) (luma chroma : ℕ → ℕ → ℤ) (w : Window) → 1 ≤ D → is_readable (most D) direction luma chroma w ≡ true
    → NineMost (count_of w * (most D * most D)) (sums_of D direction luma chroma w)
unfolding walk
sums-most D direction luma chroma w one r =
    rows_both (λ n s. NineMost (n * (most D * most D)) s) w (λ x y n. n + 1) (one_more D direction luma chroma)
    (λ x y c n s h. wider (omega arith) (step-most D direction luma chroma x y (n * (most D * most D)) s one (readable-at (most D) direction luma chroma w r x y c) h))
    w.ref_height 0 none (nine-start _)
