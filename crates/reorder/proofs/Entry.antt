-- Counts and places in a list of row numbers, and what is left of them when the first i is taken out. Assumes nothing.
use mathlib.Core.Path.{◌≡◌, refl, sym, ap, ◌∙◌}
use mathlib.Core.Logic.{◌≢◌}
use mathlib.Core.List.{List, [], ◌∷◌}
use Prim.Native.Nat.{ℕ, zero, suc, ◌≤◌, ◌<◌}
use native.Mathlib.Decide.{ℕ_discrete}
use native.Mathlib.Omega.{arith}
use borrow.Author.Tests.{eq-eqb, ne_eqb}
use lib.ListN.{length}
use Rattle.reorder.specs.Entry.{count, place, remove}

-- ---- the three at a first entry that is i, and at one that is not

module _ {i x : ℕ} (xs : List ℕ) where
  pub count_same : x ≡ i → count i (x ∷ xs) ≡ suc (count i xs)
  unfolding count
  count_same e = rw (eq-eqb x i e)

  pub count-other : x ≢ i → count i (x ∷ xs) ≡ count i xs
  unfolding count
  count-other ne = rw (ne_eqb x i ne)

  pub place_same : x ≡ i → place i (x ∷ xs) ≡ zero
  unfolding place
  place_same e = rw (eq-eqb x i e)

  pub place_other : x ≢ i → place i (x ∷ xs) ≡ suc (place i xs)
  unfolding place
  place_other ne = rw (ne_eqb x i ne)

  pub remove-same : x ≡ i → remove i (x ∷ xs) ≡ xs
  unfolding remove
  remove-same e = rw (eq-eqb x i e)

  pub remove-other : x ≢ i → remove i (x ∷ xs) ≡ x ∷ remove i xs
  unfolding remove
  remove-other ne = rw (ne_eqb x i ne)

-- ---- what stands before something stands in the list

pub place-le : (i : ℕ) (l : List ℕ) → place i l ≤ length l
unfolding place
place-le i [] = omega arith
place-le i (x ∷ xs) = elim (ℕ_discrete x i) [
  | yes e ↦ rw (place_same xs e) (omega arith)
  | no ne ↦ rw (place_other xs ne) (omega (arith, place-le i xs))
]

pub count-pos : (i : ℕ) (l : List ℕ) → place i l < length l → zero < count i l
unfolding place
count-pos i [] h = omega arith
count-pos i (x ∷ xs) h = elim (ℕ_discrete x i) [
  | yes e ↦ rw (count_same xs e) (omega arith)
  | no ne ↦ rw (count-other xs ne) (count-pos i xs (omega (arith, rw (place_other xs ne) at h)))
]

pub place-lt : (i : ℕ) (l : List ℕ) → zero < count i l → place i l < length l
unfolding count
place-lt i [] h = omega arith
place-lt i (x ∷ xs) h = elim (ℕ_discrete x i) [
  | yes e ↦ rw (place_same xs e) (omega arith)
  | no ne ↦ rw (place_other xs ne) (omega (arith, place-lt i xs (rw (count-other xs ne) at h)))
]

-- ---- taking the first i out

pub count-remove-same : (i : ℕ) (l : List ℕ) → zero < count i l → suc (count i (remove i l)) ≡ count i l
unfolding count
count-remove-same i [] h = omega arith
count-remove-same i (x ∷ xs) h = elim (ℕ_discrete x i) [
  | yes e ↦ rw (remove-same xs e, count_same xs e)
  | no ne ↦ rw (remove-other xs ne, count-other xs ne, count-other (remove i xs) ne) (count-remove-same i xs (rw (count-other xs ne) at h))
]

pub count-remove-other : (i k : ℕ) (l : List ℕ) → i ≢ k → count i (remove k l) ≡ count i l
unfolding count remove
count-remove-other i k [] d = refl
count-remove-other i k (x ∷ xs) d = elim (ℕ_discrete x k) [
  | yes e ↦ rw (remove-same xs e, count-other {i = i} {x = x} xs (λ f. d (sym f ∙ e)))
  | no ne ↦ rw (remove-other xs ne) (elim (ℕ_discrete x i) [
    | yes e ↦ rw (count_same xs e, count_same (remove k xs) e) (ap suc (count-remove-other i k xs d))
    | no ne' ↦ rw (count-other xs ne', count-other (remove k xs) ne') (count-remove-other i k xs d)
  ])
]

-- two other numbers keep their order
pub place-remove : (i j k : ℕ) (l : List ℕ) → i ≢ k → j ≢ k → place i l < place j l → place i (remove k l) < place j (remove k l)
unfolding place remove
place-remove i j k [] di dj h = h
place-remove i j k (x ∷ xs) di dj h = elim (ℕ_discrete x k) [
  | yes e ↦ rw (remove-same xs e) (omega (arith, rw (place_other {i = i} {x = x} xs (λ f. di (sym f ∙ e)), place_other {i = j} {x = x} xs (λ f. dj (sym f ∙ e))) at h))
  | no ne ↦ rw (remove-other xs ne) (elim (ℕ_discrete x j) [
    | yes e ↦ absurd (omega (arith, rw (place_same {i = j} xs e) at h))
    | no nj ↦ rw (place_other (remove k xs) nj) (elim (ℕ_discrete x i) [
      | yes e ↦ rw (place_same (remove k xs) e) (omega arith)
      | no ni ↦ rw (place_other (remove k xs) ni) (omega (arith, place-remove i j k xs di dj (omega (arith, rw (place_other xs ni, place_other xs nj) at h))))
    ])
  ])
]
