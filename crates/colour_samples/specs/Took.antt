-- What a function that takes samples does to the totals (document 01, Colour parameters), by the test and the sums of its samples.
use Rattle.std.specs.Prelude.{◌≡◌, Bool, true, ◌&&◌, ℕ, ◌+◌, ◌*◌, ℤ, nat_abs}
use Rattle.numbers.specs.Depth.{most}
use Rattle.colour_samples.specs.declared.nine.Nine.{Nine}
use Rattle.colour_samples.specs.declared.totals.Totals.{Totals}
use Rattle.colour_samples.specs.Sample.{in_range, terms}
use Rattle.colour_samples.specs.Nine.{none, added, NineMost}
use Rattle.colour_samples.specs.Way.{unseen, all_in}

-- no place yet
abbrev pub empty : Totals
empty = record { seen = unseen; sums = none }

-- from the totals g to the totals r: the test of all that was seen, the sums where it holds, and how much they grow at most
pub record Took (D : ℕ) (test : Bool → Bool) (more : Nine → Nine) (growth : ℕ) (g r : Totals) : Type 0 where
  pub tested : all_in (most D) r.seen ≡ test (all_in (most D) g.seen)
  pub kept : all_in (most D) r.seen ≡ true → all_in (most D) g.seen ≡ true
  pub summed : all_in (most D) r.seen ≡ true → r.sums ≡ more g.sums
  pub grown : (b : ℕ) → NineMost b g.sums → NineMost (b + growth) r.sums

-- the sample with the direction's luma v, the centre c and chroma k
abbrev pub TookOne : ℕ → ℤ → ℤ → ℤ → Totals → Totals → Type 0
TookOne D v c k g r = Took D (λ ok. ok && in_range (most D) v c k) (λ s. added s (terms D v c) (nat_abs k)) (4095 * 4095) g r
