-- The clashing pairs by places, as a walk over the order tests them: of two clashing entries the first is the lower. Assumes nothing.
use mathlib.Core.Path.{◌≡◌, sym, ap, ◌∙◌}
use mathlib.Core.Logic.{◌↔◌}
use mathlib.Core.List.{List}
use Prim.Native.Nat.{ℕ, ◌<◌}
use native.Mathlib.Decide.{ℕ_discrete, dec_lt}
use native.Mathlib.Omega.{arith}
use lib.ListN.{get_or}
use Rattle.reorder.specs.Entry.{place}
use Rattle.reorder.specs.Once.{Once}
use Rattle.reorder.specs.Jobs.{Jobs, Clash}
use Rattle.reorder.specs.Order.{Kept, KeptAt}
use Rattle.reorder.proofs.Entry.{place-lt}
use Rattle.reorder.proofs.Counts.{once-single}
use Rattle.reorder.proofs.Places.{entry_place, place-entry}
use Rattle.reorder.proofs.Once.{fresh-of-once}
use Rattle.reorder.proofs.Commute.{clash-sym}

-- over any pairs of rows that are the same either way round
module _ (Pair : ℕ → ℕ → Type 0) (turned : (i j : ℕ) → Pair i j → Pair j i) (n : ℕ) (order : List ℕ) (o : Once n order) where
  entry : (i : ℕ) → i < n → get_or order (place i order) 0 ≡ i
  entry i h = entry_place order i (omega (arith, o.each i h))

  stands : (a : ℕ) → a < n → place (get_or order a 0) order ≡ a
  stands a h = place-entry order a (omega (arith, o.long)) (once-single n order o (get_or order a 0))

  below : (a : ℕ) → a < n → get_or order a 0 < n
  below a h = (fresh-of-once n order o).below a h

  within : (i : ℕ) → i < n → place i order < n
  within i h = omega (arith, place-lt i order (omega (arith, o.each i h)), o.long)

  pub pairs-at : ((i j : ℕ) → i < j → j < n → Pair i j → place i order < place j order)
      ↔ ((a b : ℕ) → a < b → b < n → Pair (get_or order a 0) (get_or order b 0) → get_or order a 0 < get_or order b 0)
  pairs-at = (to, from)
    where
      to : ((i j : ℕ) → i < j → j < n → Pair i j → place i order < place j order)
          → (a b : ℕ) → a < b → b < n → Pair (get_or order a 0) (get_or order b 0) → get_or order a 0 < get_or order b 0
      to k a b h hb cl = elim (dec_lt (get_or order a 0) (get_or order b 0)) [
        | yes l ↦ l
        | no l ↦ elim (ℕ_discrete (get_or order a 0) (get_or order b 0)) [
          | yes e ↦ absurd ((fresh-of-once n order o).differ a b h hb e)
          | no ne ↦ absurd (omega (
            arith,
            stands a (omega arith),
            stands b hb,
            k (get_or order b 0) (get_or order a 0) (omega arith) (below a (omega arith)) (turned (get_or order a 0) (get_or order b 0) cl),
          ))
        ]
      ]

      from : ((a b : ℕ) → a < b → b < n → Pair (get_or order a 0) (get_or order b 0) → get_or order a 0 < get_or order b 0)
          → (i j : ℕ) → i < j → j < n → Pair i j → place i order < place j order
      from k i j h hj cl = elim (dec_lt (place i order) (place j order)) [
        | yes l ↦ l
        | no l ↦ elim (ℕ_discrete (place i order) (place j order)) [
          | yes e ↦ absurd (omega (arith, sym (entry i (omega arith)) ∙ ap (λ a. get_or order a 0) e ∙ entry j hj))
          | no ne ↦ absurd (omega (
            arith,
            rw (entry i (omega arith), entry j hj) at
                (k (place j order) (place i order) (omega arith) (within i (omega arith)) (rw (entry i (omega arith), entry j hj) (turned i j cl))),
          ))
        ]
      ]

pub kept_at : (J : Jobs) (row : ℕ → J.Job) (n : ℕ) (order : List ℕ) → Once n order → Kept J row n order ↔ KeptAt J row n order
kept_at J row n order o = pairs-at (λ i j. Clash J (row i) (row j)) (λ i j. clash-sym J (row i) (row j)) n order o
