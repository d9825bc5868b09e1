-- Several rectangles against several, and the clash of two jobs by their rectangles. Assumes nothing.
use mathlib.Core.Path.{◌≡◌, ◌∙◌}
use mathlib.Core.Logic.Iff
use mathlib.Core.Logic.{◌⊎◌, inl, inr}
use mathlib.Core.Bool.{false, ◌||◌, false≢true, or-false, or_comm}
use mathlib.Core.List.{List, [], ◌∷◌}
use Prim.Native.Nat.{ℕ}
use Rattle.reorder.specs.Test.{Decides}
use Rattle.reorder.specs.Rect.{Rect, Wide, In, meet_b, InAny, AllWide, in_any_b, meet_any_b, cross_b, clash_b}
use Rattle.reorder.proofs.Test.{or-decides}
use Rattle.reorder.proofs.Rect.{in-decides, meet-decides}

never : (P : Type 0) → ¬ P → Decides false P
never P n = (λ e. absurd (false≢true e), λ p. absurd (n p))

pub in-any-decides : (W : ℕ) (Rs : List Rect) → AllWide W Rs → (p : ℕ) → Decides (in_any_b W Rs p) (InAny W Rs p)
unfolding in_any_b
in-any-decides W [] w p = never ⊥ (λ f. f)
in-any-decides W (R ∷ Rs) w p = or-decides _ _ _ _ (in-decides W R w.0 p) (in-any-decides W Rs w.1 p)

meet-any-decides : (W : ℕ) (A : Rect) (Bs : List Rect) → Wide W A → AllWide W Bs → Decides (meet_any_b A Bs) ((p : ℕ) × In W A p × InAny W Bs p)
unfolding meet_any_b
meet-any-decides W A [] wa wb = never _ (λ s. s.2)
meet-any-decides W A (B ∷ Bs) wa wb =
    Iff.trans (or-decides _ _ _ _ (meet-decides W A B wa wb.0) (meet-any-decides W A Bs wa wb.1)) (
      elim [ inl s ↦ (s.0, s.1, inl s.2) | inr s ↦ (s.0, s.1, inr s.2) ],
      λ s. elim s.2 [ inl i ↦ inl (s.0, s.1, i) | inr i ↦ inr (s.0, s.1, i) ],
    )

-- the two lists share a sample
pub cross-decides : (W : ℕ) (As Bs : List Rect) → AllWide W As → AllWide W Bs → Decides (cross_b As Bs) ((p : ℕ) × InAny W As p × InAny W Bs p)
unfolding cross_b
cross-decides W [] Bs wa wb = never _ (λ s. s.1)
cross-decides W (A ∷ As) Bs wa wb =
    Iff.trans (or-decides _ _ _ _ (meet-any-decides W A Bs wa.0 wb) (cross-decides W As Bs wa.1 wb)) (
      elim [ inl s ↦ (s.0, inl s.1, s.2) | inr s ↦ (s.0, inr s.1, s.2) ],
      λ s. elim s.1 [ inl i ↦ inl (s.0, i, s.2) | inr i ↦ inr (s.0, i, s.2) ],
    )

-- one rectangle against one
pub cross-one : (A B : Rect) → cross_b (A ∷ []) (B ∷ []) ≡ meet_b A B
unfolding cross_b meet_any_b
cross-one A B = or-false (meet_b A B || false) ∙ or-false (meet_b A B)

-- a clash is the same either way round
pub clash-swapped : (ri wi rj wj : List Rect) → clash_b ri wi rj wj ≡ clash_b rj wj ri wi
unfolding clash_b
clash-swapped ri wi rj wj = or_comm (cross_b wi rj || cross_b wi wj) (cross_b wj ri || cross_b wj wi)

-- `Clash` of Jobs.antt, where Reads and Writes are `InAny`
pub clash-decides : (W : ℕ) (ri wi rj wj : List Rect) → AllWide W ri → AllWide W wi → AllWide W rj → AllWide W wj
    → Decides (clash_b ri wi rj wj)
    (((p : ℕ) × InAny W wi p × (InAny W rj p ⊎ InAny W wj p)) ⊎ ((p : ℕ) × InAny W wj p × (InAny W ri p ⊎ InAny W wi p)))
unfolding clash_b
clash-decides W ri wi rj wj ari awi arj awj = or-decides _ _ _ _ (hits wi rj wj awi arj awj) (hits wj ri wi awj ari awi)
  where
    hits : (a r w : List Rect) → AllWide W a → AllWide W r → AllWide W w
        → Decides (cross_b a r || cross_b a w) ((p : ℕ) × InAny W a p × (InAny W r p ⊎ InAny W w p))
    hits a r w aa ar aw =
        Iff.trans (or-decides _ _ _ _ (cross-decides W a r aa ar) (cross-decides W a w aa aw)) (
          elim [ inl s ↦ (s.0, s.1, inl s.2) | inr s ↦ (s.0, s.1, inr s.2) ],
          λ s. elim s.2 [ inl i ↦ inl (s.0, s.1, i) | inr i ↦ inr (s.0, s.1, i) ],
        )
