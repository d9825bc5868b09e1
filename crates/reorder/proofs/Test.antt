-- How a test decides a statement: comparisons, and how it goes through "and", "or", "implies" and "for all below n". Assumes nothing.
use mathlib.Core.Path.{◌≡◌, refl, sym}
use mathlib.Core.Logic.Iff
use mathlib.Core.Logic.{◌↔◌, ◌⊎◌, inl, inr}
use mathlib.Core.Bool.{Bool, true, false, not, ◌&&◌, ◌||◌, false≢true}
use Prim.Native.Nat.{ℕ, zero, suc, ◌≤◌, ◌<◌}
use native.Mathlib.Decide.{ℕ_discrete}
use native.Mathlib.Omega.{arith}
use lib.Dec.{ltb, leb, eqb}
use borrow.Author.Tests.{ltb-true, leb-true, eqb-true, lt-ltb, le-leb, eq-eqb}
use Rattle.reorder.specs.Test.{Decides, all_below}

pub lt-decides : (m n : ℕ) → Decides (ltb m n) (m < n)
lt-decides m n = (ltb-true m n, lt-ltb m n)

pub le-decides : (m n : ℕ) → Decides (leb m n) (m ≤ n)
le-decides m n = (leb-true m n, le-leb m n)

pub eq-decides : (m n : ℕ) → Decides (eqb m n) (m ≡ n)
eq-decides m n = (eqb-true m n, eq-eqb m n)

-- a test that decides P says P or not P
pub decided : (b : Bool) (P : Type 0) → Decides b P → Dec P
decided true P d = yes (d.0 refl)
decided false P d = no (λ p. false≢true (d.1 p))

pub fails : (b : Bool) (P : Type 0) → Decides b P → (b ≡ false) ↔ (¬ P)
fails true P d = (λ e. absurd (false≢true (sym e)), λ n. absurd (n (d.0 refl)))
fails false P d = (λ e p. false≢true (d.1 p), λ n. refl)

pub and-decides : (a b : Bool) (P Q : Type 0) → Decides a P → Decides b Q → Decides (a && b) (P × Q)
and-decides true b P Q da db = (λ e. (da.0 refl, db.0 e), λ h. db.1 h.1)
and-decides false b P Q da db = (λ e. absurd (false≢true e), λ h. absurd (false≢true (da.1 h.0)))

pub or-decides : (a b : Bool) (P Q : Type 0) → Decides a P → Decides b Q → Decides (a || b) (P ⊎ Q)
or-decides true b P Q da db = (λ e. inl (da.0 refl), λ h. refl)
or-decides false b P Q da db = (λ e. inr (db.0 e), λ h. elim h [ inl p ↦ absurd (false≢true (da.1 p)) | inr q ↦ db.1 q ])

pub implies-decides : (a b : Bool) (P Q : Type 0) → Decides a P → Decides b Q → Decides (not a || b) (P → Q)
implies-decides true b P Q da db = (λ e p. db.0 e, λ h. db.1 (h (da.0 refl)))
implies-decides false b P Q da db = (λ e p. absurd (false≢true (da.1 p)), λ h. refl)

-- one more number
below_suc : (n : ℕ) (P : ℕ → Type 0) → (((i : ℕ) → i < n → P i) × P n) ↔ ((i : ℕ) → i < suc n → P i)
below_suc n P = (λ h i k. elim (ℕ_discrete i n) [ yes e ↦ rw e h.1 | no ne ↦ h.0 i (omega arith) ], λ h. (λ i k. h i (omega arith), h n (omega arith)))

pub all-decides : (n : ℕ) (f : ℕ → Bool) (P : ℕ → Type 0) → ((i : ℕ) → i < n → Decides (f i) (P i)) → Decides (all_below n f) ((i : ℕ) → i < n → P i)
unfolding all_below
all-decides zero f P d = (λ e i h. absurd (omega arith), λ h. refl)
all-decides (suc n) f P d =
    Iff.trans (and-decides (all_below n f) (f n) ((i : ℕ) → i < n → P i) (P n) (all-decides n f P (λ i h. d i (omega arith))) (d n (omega arith))) (below_suc n P)

pub all-below-same : (n : ℕ) (f g : ℕ → Bool) → ((i : ℕ) → i < n → f i ≡ g i) → all_below n f ≡ all_below n g
unfolding all_below
all-below-same zero f g same = refl
all-below-same (suc n) f g same = let e = all-below-same n f g (λ i h. same i (omega arith)) in λ i. e i && same n (omega arith) i
