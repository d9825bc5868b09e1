-- In an accepted order two neighbours that do not clash may be exchanged, and it stays accepted. Assumes nothing.
use mathlib.Core.Path.{◌≡◌, refl, sym, ◌∙◌}
use mathlib.Core.Logic.{◌≢◌, ◌⊎◌, inl, inr}
use mathlib.Core.List.{List}
use Prim.Native.Nat.{ℕ, ◌+◌, ◌<◌}
use native.Mathlib.Decide.{ℕ_discrete}
use native.Mathlib.Omega.{arith}
use lib.ListN.{length, get_or, set, length-set}
use lib.Seq.{get_or-set_same, get_or-set_other, lt-length-set}
use Rattle.reorder.specs.Once.{Once}
use Rattle.reorder.specs.Jobs.{Jobs, Clash}
use Rattle.reorder.specs.Order.{Accepted, KeptAt}
use Rattle.reorder.specs.Swap.{swapped, Free}
use Rattle.reorder.proofs.Once.{once-of-fresh, fresh-of-once}
use Rattle.reorder.proofs.Commute.{clash-sym}
use Rattle.reorder.proofs.Kept.{kept_at}

pub length-swapped : (order : List ℕ) (p : ℕ) → length (swapped order p) ≡ length order
unfolding swapped
length-swapped order p = simp length-set

-- ---- the entry at p, at p + 1 and at any other place

module _ (order : List ℕ) (p : ℕ) (fits : p + 1 < length order) where
  abbrev half : List ℕ
  half = set order p (get_or order (p + 1) 0)

  pub swapped-first : get_or (swapped order p) p 0 ≡ get_or order (p + 1) 0
  unfolding swapped
  swapped-first = get_or-set_other half (p + 1) p (get_or order p 0) 0 (λ e. omega arith) ∙ get_or-set_same order p (get_or order (p + 1) 0) 0 (omega arith)

  pub swapped-second : get_or (swapped order p) (p + 1) 0 ≡ get_or order p 0
  unfolding swapped
  swapped-second = get_or-set_same half (p + 1) (get_or order p 0) 0 (lt-length-set order p (get_or order (p + 1) 0) fits)

  pub swapped_other : (k : ℕ) → k ≢ p → k ≢ p + 1 → get_or (swapped order p) k 0 ≡ get_or order k 0
  unfolding swapped
  swapped_other k a b = get_or-set_other half (p + 1) k (get_or order p 0) 0 b ∙ get_or-set_other order p k (get_or order (p + 1) 0) 0 a

-- ---- the entry at k stood at place c

data Was (p k c : ℕ) : Type 0 where
  right : k ≡ p → c ≡ p + 1 → Was p k c
  left : k ≡ p + 1 → c ≡ p → Was p k c
  there : k ≢ p → k ≢ p + 1 → c ≡ k → Was p k c

abbrev Stood : List ℕ → ℕ → ℕ → Type 0
Stood order p k = (c : ℕ) × Was p k c × (get_or (swapped order p) k 0 ≡ get_or order c 0)

stood : (order : List ℕ) (p : ℕ) → p + 1 < length order → (k : ℕ) → Stood order p k
stood order p fits k = elim (ℕ_discrete k p) [
  | yes e ↦ (p + 1, right e refl, rw e (swapped-first order p fits))
  | no ne ↦ elim (ℕ_discrete k (p + 1)) [
    | yes e ↦ (p, left e refl, rw e (swapped-second order p fits))
    | no ne' ↦ (k, there ne ne' refl, swapped_other order p fits k ne ne')
  ]
]

module _ (p : ℕ) where
  was-below : (n k c : ℕ) → p + 1 < n → k < n → Was p k c → c < n
  was-below n k c fits h (right e d) = omega arith
  was-below n k c fits h (left e d) = omega arith
  was-below n k c fits h (there e e' d) = omega arith

  -- two entries stood as they stand, or they are the two that changed places
  was-before : (a b c d : ℕ) → a < b → Was p a c → Was p b d → (c < d) ⊎ ((d ≡ p) × (c ≡ p + 1))
  was-before a b c d h (right e f) (right e' f') = absurd (omega arith)
  was-before a b c d h (right e f) (left e' f') = inr (f', f)
  was-before a b c d h (right e f) (there x y f') = inl (omega arith)
  was-before a b c d h (left e f) (right e' f') = absurd (omega arith)
  was-before a b c d h (left e f) (left e' f') = absurd (omega arith)
  was-before a b c d h (left e f) (there x y f') = inl (omega arith)
  was-before a b c d h (there x y f) (right e' f') = inl (omega arith)
  was-before a b c d h (there x y f) (left e' f') = inl (omega arith)
  was-before a b c d h (there x y f) (there x' y' f') = inl (omega arith)

-- ---- the law

module _ (n : ℕ) (order : List ℕ) (p : ℕ) (fits : p + 1 < n) (o : Once n order) where
  at : (k : ℕ) → Stood order p k
  at = stood order p (omega (arith, o.long))

  from-below : (k : ℕ) → k < n → (at k).0 < n
  from-below k h = was-below p n k (at k).0 fits h (at k).1

  swap-once : Once n (swapped order p)
  swap-once =
      let f = fresh-of-once n order o in
      once-of-fresh n (swapped order p) (record {
        long = length-swapped order p ∙ o.long;
        below = λ k h. rw (at k).2 (f.below (at k).0 (from-below k h));
        differ = λ a b h k e. elim (was-before p a b (at a).0 (at b).0 h (at a).1 (at b).1) [
          | inl l ↦ f.differ (at a).0 (at b).0 l (from-below b k) (sym (at a).2 ∙ e ∙ (at b).2)
          | inr w ↦ f.differ (at b).0 (at a).0 (omega arith) (from-below a (omega arith)) (sym (at b).2 ∙ sym e ∙ (at a).2)
        ];
      })

  swap-kept : (J : Jobs) (row : ℕ → J.Job) → Free J row order p → KeptAt J row n order → KeptAt J row n (swapped order p)
  swap-kept J row free kept a b h k = rw ((at a).2, (at b).2) (pair (was-before p a b (at a).0 (at b).0 h (at a).1 (at b).1))
    where
      pair : ((at a).0 < (at b).0) ⊎ (((at b).0 ≡ p) × ((at a).0 ≡ p + 1))
          → Clash J (row (get_or order (at a).0 0)) (row (get_or order (at b).0 0)) → get_or order (at a).0 0 < get_or order (at b).0 0
      pair (inl l) cl = kept (at a).0 (at b).0 l (from-below b k) cl
      pair (inr w) cl = absurd (free (clash-sym J _ _ (rw (w.0, w.1) at cl)))

-- THE LAW. Of an accepted order two neighbours that do not clash may be exchanged.
pub swap-accepted : (J : Jobs) (row : ℕ → J.Job) (n : ℕ) (order : List ℕ) (p : ℕ) → p + 1 < n → Free J row order p
    → Accepted J row n order → Accepted J row n (swapped order p)
swap-accepted J row n order p fits free a =
    let o = swap-once n order p fits a.once in
    record {
      once = o;
      kept = (kept_at J row n (swapped order p) o).1 (swap-kept n order p fits a.once J row free ((kept_at J row n order a.once).0 a.kept));
    }
