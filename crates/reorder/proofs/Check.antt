-- The two tests of an order are exact both ways. Assumes nothing.
use mathlib.Core.Path.{◌≡◌, ap}
use mathlib.Core.Bool.{Bool, not, ◌&&◌, ◌||◌}
use mathlib.Core.List.{List}
use Prim.Native.Nat.{ℕ, ◌<◌}
use lib.Dec.{ltb, eqb}
use lib.ListN.{length}
use Rattle.reorder.specs.Test.{Decides, all_below}
use Rattle.reorder.specs.Entry.{count, place}
use Rattle.reorder.specs.Once.{Once}
use Rattle.reorder.specs.Jobs.{Jobs, Clash}
use Rattle.reorder.specs.Order.{Kept}
use Rattle.reorder.specs.Check.{once_b, kept_b}
use Rattle.reorder.proofs.Test.{lt-decides, eq-decides, and-decides, implies-decides, all-decides, all-below-same}

pub once-decides : (n : ℕ) (order : List ℕ) → Decides (once_b n order) (Once n order)
unfolding once_b
once-decides n order = (λ e. record { long = (both.0 e).0; each = (both.0 e).1 }, λ o. both.1 (o.long, o.each))
  where
    both : Decides (eqb (length order) n && all_below n (λ i. eqb (count i order) 1)) ((length order ≡ n) × ((i : ℕ) → i < n → count i order ≡ 1))
    both = and-decides _ _ _ _ (eq-decides (length order) n) (all-decides n _ _ (λ i h. eq-decides (count i order) 1))

-- two tests that agree on the pairs below n
pub kept_same : (clash clash' : ℕ → ℕ → Bool) (n : ℕ) → ((i j : ℕ) → i < j → j < n → clash i j ≡ clash' i j)
    → (order : List ℕ) → kept_b clash n order ≡ kept_b clash' n order
unfolding kept_b
kept_same clash clash' n same order =
    all-below-same n _ _ (λ j k. all-below-same j _ _ (λ i h. ap (λ b. not b || ltb (place i order) (place j order)) (same i j h k)))

-- over any pairs of rows
module _ (clash : ℕ → ℕ → Bool) (n : ℕ) (Pair : ℕ → ℕ → Type 0) (exact : (i j : ℕ) → i < j → j < n → Decides (clash i j) (Pair i j)) where
  pub pairs_decide : (order : List ℕ) → Decides (kept_b clash n order) ((i j : ℕ) → i < j → j < n → Pair i j → place i order < place j order)
  unfolding kept_b
  pairs_decide order = (λ e i j h k. pairs.0 e j k i h, λ h. pairs.1 (λ j k i h'. h i j h' k))
    where
      pairs : Decides (all_below n (λ j. all_below j (λ i. not (clash i j) || ltb (place i order) (place j order))))
          ((j : ℕ) → j < n → (i : ℕ) → i < j → Pair i j → place i order < place j order)
      pairs = all-decides n _ _ (λ j k. all-decides j _ _ (λ i h.
          implies-decides (clash i j) (ltb (place i order) (place j order)) _ _ (exact i j h k) (lt-decides (place i order) (place j order))))

pub kept-decides : (J : Jobs) (row : ℕ → J.Job) (clash : ℕ → ℕ → Bool) (n : ℕ)
    → ((i j : ℕ) → i < j → j < n → Decides (clash i j) (Clash J (row i) (row j)))
    → (order : List ℕ) → Decides (kept_b clash n order) (Kept J row n order)
kept-decides J row clash n exact order = pairs_decide clash n (λ i j. Clash J (row i) (row j)) exact order
