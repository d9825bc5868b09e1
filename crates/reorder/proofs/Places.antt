-- Entries by places: an entry k of the list is `get_or l k 0`. Assumes nothing.
use mathlib.Core.Path.{◌≡◌, refl, sym, ap, ◌∙◌}
use mathlib.Core.Logic.{◌≢◌}
use mathlib.Core.List.{List, [], ◌∷◌}
use Prim.Native.Nat.{ℕ, zero, suc, ◌≤◌, ◌<◌}
use native.Mathlib.Decide.{ℕ_discrete, dec_le}
use native.Mathlib.Omega.{arith}
use lib.ListN.{length, get_or}
use Rattle.reorder.specs.Entry.{count, place}
use Rattle.reorder.proofs.Entry.{count_same, count-other, place_same, place_other, place-lt}

pub count-entry : (l : List ℕ) (k : ℕ) → k < length l → zero < count (get_or l k 0) l
count-entry [] k h = omega arith
count-entry (x ∷ xs) zero h = rw (count_same {i = x} xs refl) (omega arith)
count-entry (x ∷ xs) (suc k) h = elim (ℕ_discrete x (get_or xs k 0)) [
  | yes e ↦ rw (count_same xs e) (omega arith)
  | no ne ↦ rw (count-other xs ne) (count-entry xs k (omega arith))
]

-- the entry at the place of i is i
pub entry_place : (l : List ℕ) (i : ℕ) → zero < count i l → get_or l (place i l) 0 ≡ i
unfolding count
entry_place [] i h = omega arith
entry_place (x ∷ xs) i h = elim (ℕ_discrete x i) [
  | yes e ↦ rw (place_same xs e) e
  | no ne ↦ rw (place_other xs ne) (entry_place xs i (rw (count-other xs ne) at h))
]

-- the place of an entry that stands once is where it stands
pub place-entry : (l : List ℕ) (k : ℕ) → k < length l → count (get_or l k 0) l ≤ 1 → place (get_or l k 0) l ≡ k
place-entry [] k h c = omega arith
place-entry (x ∷ xs) zero h c = place_same xs refl
place-entry (x ∷ xs) (suc k) h c = elim (ℕ_discrete x (get_or xs k 0)) [
  | yes e ↦ absurd (omega (arith, rw (count_same xs e) at c, count-entry xs k (omega arith)))
  | no ne ↦ rw (place_other xs ne) (ap suc (place-entry xs k (omega arith) (rw (count-other xs ne) at c)))
]

-- no two places have the same entry: no number stands twice
pub single-of-places : (l : List ℕ) → ((a b : ℕ) → a < b → b < length l → get_or l a 0 ≢ get_or l b 0) → (x : ℕ) → count x l ≤ 1
unfolding count
single-of-places [] d x = omega arith
single-of-places (y ∷ ys) d x = elim (ℕ_discrete y x) [
  | yes e ↦ elim (dec_le (count x ys) 0) [
    | yes z ↦ rw (count_same ys e) (omega arith)
    | no z ↦
        let c : zero < count x ys = omega arith in
        absurd (d 0 (suc (place x ys)) (omega arith) (omega (arith, place-lt x ys c)) (e ∙ sym (entry_place ys x c)))
  ]
  | no ne ↦ rw (count-other ys ne) (single-of-places ys (λ a b h k. d (suc a) (suc b) (omega arith) (omega arith)) x)
]
