-- A search, one place after the other: what it tells is that of the places passed. Assumes nothing.
use mathlib.Core.Path.{◌≡◌, refl}
use mathlib.Core.Logic.{◌⊎◌, inr, ⊎_elim}
use mathlib.Core.Bool.{Bool, true, false, ◌||◌, true≢false, false≢true}
use Prim.Native.Nat.{ℕ, ◌+◌, ◌≤◌, ◌<◌, max}
use native.Mathlib.Decide.{ℕ_discrete}
use native.Mathlib.Omega.{arith}
use Rattle.rect_order.specs.Columns.{Tells}

-- nothing is there
pub tells-not : (P : ℕ → Type 0) (from to : ℕ) → ((j : ℕ) → from ≤ j → j < to → ¬ (P j)) → Tells P from to false
tells-not P from to f = record { some = λ e. absurd (false≢true e); none = λ e. f }

-- something is
pub tells-one : (P : ℕ → Type 0) (from to j : ℕ) → from ≤ j → j < to → P j → Tells P from to true
tells-one P from to j l m h = record { some = λ e. (j, l, m, h); none = λ e. absurd (true≢false e) }

-- one of two kinds of things, of which the first is not there
pub tells-either : (P Q : ℕ → Type 0) (from to : ℕ) (p q : Bool) → p ≡ false → Tells P from to p → Tells Q from to q
    → Tells (λ j. P j ⊎ Q j) from to q
tells-either P Q from to p q e t u = record {
  some = λ f. let s = u.some f in (s.0, s.1, s.2, inr s.3);
  none = λ f j a b. ⊎_elim (t.none e j a b) (u.none f j a b);
}

module _ (P : ℕ → Type 0) (from p : ℕ) where
  -- one place more
  pub tells_more : (hit here : Bool) → from ≤ p → (here ≡ true → P p) → (here ≡ false → ¬ (P p)) → Tells P from p hit
      → Tells P from (p + 1) (hit || here)
  tells_more true here l yes-here not-here t =
      let s = t.some refl in
      tells-one P from (p + 1) s.0 s.1 (omega (arith, s.2)) s.3
  tells_more false true l yes-here not-here t = tells-one P from (p + 1) p l (omega arith) (yes-here refl)
  tells_more false false l yes-here not-here t =
      tells-not P from (p + 1) (λ j a b. elim (ℕ_discrete j p) [ yes q ↦ rw q (not-here refl) | no q ↦ t.none refl j a (omega arith) ])

  -- the end
  pub tells_all : (to : ℕ) (hit : Bool) → p ≤ max from to → to ≤ p → Tells P from p hit → Tells P from to hit
  tells_all to hit l m t = record {
    some = λ e. let s = t.some e in (s.0, s.1, omega (arith, s.1, s.2), s.3);
    none = λ e j a b. t.none e j a (omega arith);
  }
