-- `every f n` is true exactly when f is true of each place below n; so it hangs on those places alone. Assumes nothing.
use mathlib.Core.Path.{◌≡◌, refl, sym, ◌∙◌, ap}
use mathlib.Core.Bool.{Bool, true, false, ◌&&◌}
use mathlib.Core.Logic.{◌⊎◌, inl, inr, ⊎_elim}
use Prim.Native.Nat.{ℕ, zero, suc, ◌+◌, ◌-◌, ◌≤◌, ◌<◌}
use native.Mathlib.Nat.{eq-or-lt_of_le, le_of_suc-le-suc}
use native.Mathlib.Omega.{arith}
use Rattle.signed.proofs.Range.{and_both}
use Rattle.edge_line.specs.Every.{every}
use Rattle.edge_line.proofs.Split.{below_or}

pub every-at : (f : ℕ → Bool) (n : ℕ) → every f n ≡ true → (i : ℕ) → i < n → f i ≡ true
unfolding every
every-at f zero e i h = absurd (omega arith)
every-at f (suc n) e i h =
    let p = and_both (every f n) (f n) e in
    ⊎_elim (λ q. rw q p.1) (λ l. every-at f n p.0 i l) (eq-or-lt_of_le (le_of_suc-le-suc h))

pub every-all : (f : ℕ → Bool) (n : ℕ) → ((i : ℕ) → i < n → f i ≡ true) → every f n ≡ true
unfolding every
every-all f zero h = refl
every-all f (suc n) h = rw (every-all f n (λ i l. h i (omega arith)), h n (omega arith))

pub every-same : (f g : ℕ → Bool) (n : ℕ) → ((i : ℕ) → i < n → f i ≡ g i) → every f n ≡ every g n
unfolding every
every-same f g zero h = refl
every-same f g (suc n) h = rw (every-same f g n (λ i l. h i (omega arith)), h n (omega arith))

-- two tests that follow from each other
pub both_ways : (a b : Bool) → (a ≡ true → b ≡ true) → (b ≡ true → a ≡ true) → a ≡ b
both_ways true b f g = sym (f refl)
both_ways false true f g = g refl
both_ways false false f g = refl

-- `and_both` the other way
pub and-of : (a b : Bool) → a ≡ true → b ≡ true → (a && b) ≡ true
and-of a b p q = rw (p, q)

-- the same test of each of some places
pub every-flat : (t : Bool) (n : ℕ) → 1 ≤ n → every (λ c. t) n ≡ t
every-flat t n h = both_ways (every (λ c. t) n) t (λ e. every-at (λ c. t) n e 0 (omega arith)) (λ e. every-all (λ c. t) n (λ i l. e))

-- tests of two runs that meet are a test of one
pub every-join : (f : ℕ → Bool) (m n : ℕ) → (every f m && every (λ i. f (m + i)) n) ≡ every f (m + n)
every-join f m n = both_ways (every f m && every more n) (every f (m + n)) one two
  where
    more : ℕ → Bool
    more i = f (m + i)

    at : (every f m ≡ true) × (every more n ≡ true) → (i : ℕ) → i < m + n → (i < m) ⊎ (m ≤ i) → f i ≡ true
    at p i l (inl k) = every-at f m p.0 i k
    at p i l (inr k) =
        let q : i ≡ m + (i - m) = omega arith in
        ap f q ∙ every-at more n p.1 (i - m) (omega arith)

    one : (every f m && every more n) ≡ true → every f (m + n) ≡ true
    one e = every-all f (m + n) (λ i l. at (and_both (every f m) (every more n) e) i l (below_or i m))

    two : every f (m + n) ≡ true → (every f m && every more n) ≡ true
    two e =
        and-of (every f m) (every more n)
        (every-all f m (λ i l. every-at f (m + n) e i (omega arith)))
        (every-all more n (λ i l. every-at f (m + n) e (m + i) (omega arith)))
