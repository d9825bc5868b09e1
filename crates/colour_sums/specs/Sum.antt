-- "adds to the nine sums, six of products and three with chroma" (document 01, Colour parameters): the sums, the count and the test of all places that
-- count. Sums are whole numbers without a bound.
use Rattle.std.specs.Prelude.{Bool, true, cond, ◌&&◌, Option, Some, None, List, ℕ, ◌+◌, ◌*◌, ◌≤◌, ℤ, nat_abs, length}
use Rattle.numbers.specs.Depth.{most}
use Rattle.numbers.specs.declared.colour.ColourDirection.{ColourDirection}
use Rattle.colour_terms.specs.Terms.{stride}
use Rattle.colour_terms.specs.Reference.{most_lines}
use Rattle.colour_samples.specs.declared.nine.Nine.{Nine}
use Rattle.colour_samples.specs.Sample.{direction_luma, in_range_at, terms}
use Rattle.colour_samples.specs.Nine.{none, added}
use Rattle.colour_sums.specs.declared.window.Window.{Window}
use Rattle.colour_sums.specs.Places.{walk}

-- the sample at column x and row y more
unfoldable pub one_more : ℕ → ColourDirection → (ℕ → ℕ → ℤ) → (ℕ → ℕ → ℤ) → ℕ → ℕ → Nine → Nine
one_more D direction luma chroma x y s = added s (terms D (direction_luma direction luma x y) (luma x y)) (nat_abs (chroma x y))

-- over the places that count: the sums, how many there are, and whether all that is needed is in range
abbrev pub sums_of : ℕ → ColourDirection → (ℕ → ℕ → ℤ) → (ℕ → ℕ → ℤ) → Window → Nine
sums_of D direction luma chroma w = walk w (one_more D direction luma chroma) none

abbrev pub count_of : Window → ℕ
count_of w = walk w (λ x y n. n + 1) 0

abbrev pub is_readable : ℕ → ColourDirection → (ℕ → ℕ → ℤ) → (ℕ → ℕ → ℤ) → Window → Bool
is_readable M direction luma chroma w = walk w (λ x y ok. ok && in_range_at M direction luma chroma x y) true

-- both of the two at once: the sums, or none where something is not in range
unfoldable pub gathered : ℕ → ColourDirection → (ℕ → ℕ → ℤ) → (ℕ → ℕ → ℤ) → Window → Option Nine
gathered D direction luma chroma w = cond (is_readable (most D) direction luma chroma w) (Some (sums_of D direction luma chroma w)) None

-- refusal 11 is not given
pub record Laid (w : Window) (luma chroma : List ℤ) : Type 0 where
  pub wide : w.ref_width ≤ most_lines
  pub high : w.ref_height ≤ most_lines
  pub luma-long : w.ref_height * stride ≤ length luma
  pub chroma-long : w.ref_height * stride ≤ length chroma
