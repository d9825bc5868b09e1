-- The filtered edge, place by place: which places are filtered, what it reads, and that it holds samples (document 01, Directions). Assumes nothing.
use mathlib.Core.Path.{◌≡◌, refl}
use mathlib.Core.Bool.{Bool, true, false, cond, ◌&&◌}
use mathlib.Core.List.{List}
use Prim.Native.Nat.{ℕ, zero, suc, ◌+◌, ◌-◌, ◌≤◌, ◌<◌, min}
use native.Mathlib.Omega.{arith}
use borrow.Author.Tests.{le-leb, lt-ltb, le-ltb}
use lib.Dec.{leb, ltb}
use lib.IntN.{ℤ, pos}
use Rattle.signed.specs.Range.{inside, Edge}
use Rattle.kernels.specs.Kernel.{kernel, taps5}
use Rattle.edge_filter.specs.Filter.{edge, padded, blurred, filtered}
use Rattle.kernels.proofs.Taps.{kernel-inside}
use Rattle.edge_filter.proofs.Padded.{edge-inside}

and-false : (t : Bool) → (t && false) ≡ false
and-false true = refl
and-false false = refl

module _ (s lim n : ℕ) (e : ℕ → ℤ) where
  pub filtered-corner : (i : ℕ) → i ≡ 0 → filtered s lim n e i ≡ e 0
  unfolding filtered
  filtered-corner i h = rw (h, and-false (leb 1 s))

  pub filtered-in : (i : ℕ) → 0 < s → 0 < i → i < lim → filtered s lim n e i ≡ blurred s n e i
  unfolding filtered
  filtered-in i p h l = rw (le-leb 1 s p, le-leb 1 i h, lt-ltb i lim l)

  pub filtered-past : (i : ℕ) → lim ≤ i → filtered s lim n e i ≡ e i
  unfolding filtered
  filtered-past i l = rw (le-ltb i lim l, and-false (leb 1 i), and-false (leb 1 s))

pub filtered-off : (s lim n : ℕ) (e : ℕ → ℤ) (i : ℕ) → s ≡ 0 → filtered s lim n e i ≡ e i
unfolding filtered
filtered-off s lim n e i h = rw h

-- it reads the places up to n
pub filtered-same : (s lim n : ℕ) (e f : ℕ → ℤ) → ((j : ℕ) → j ≤ n → e j ≡ f j) → (i : ℕ) → i ≤ n
    → filtered s lim n e i ≡ filtered s lim n f i
unfolding filtered
filtered-same s lim n e f h i l = λ j.
    cond (leb 1 s && (leb 1 i && ltb i lim))
    (taps5 (kernel s 0) (kernel s 1) (kernel s 2) (kernel s 3) (kernel s 4) (p i j) (p (i + 1) j) (p (i + 2) j) (p (i + 3) j) (p (i + 4) j))
    (h i l j)
  where
    p : (t : ℕ) → padded 2 n e t ≡ padded 2 n f t
    p t = h (min n (t - 2)) (omega arith)

-- what holds of both holds of the one that a test picks
pub one_of : (P : ℤ → Type 0) (t : Bool) (a b : ℤ) → P a → P b → P (cond t a b)
one_of P true a b p q = p
one_of P false a b p q = q

-- from samples
pub filtered-sample : (v n s lim : ℕ) (e : ℕ → ℤ) → s ≤ 3 → ((j : ℕ) → j ≤ n → inside (pos v) (e j) ≡ true) → (i : ℕ) → i ≤ n
    → inside (pos v) (filtered s lim n e i) ≡ true
unfolding filtered
filtered-sample v n zero lim e l p i h = p i h
filtered-sample v n (suc s) lim e l p i h =
    one_of (λ z. inside (pos v) z ≡ true) (leb 1 (suc s) && (leb 1 i && ltb i lim)) _ _
    (kernel-inside v (suc s) (omega arith) l (padded 2 n e) (λ t. p (min n (t - 2)) (omega arith)) i (i + 1) (i + 2) (i + 3) (i + 4))
    (p i h)

pub filtered-inside : (v n s lim : ℕ) (k : ℤ) (es : List ℤ) (i : ℕ) → s ≤ 3 → Edge v n es → inside (pos v) k ≡ true → i ≤ n
    → inside (pos v) (filtered s lim n (edge k es) i) ≡ true
filtered-inside v n s lim k es i l p q h = filtered-sample v n s lim (edge k es) l (edge-inside n k es v p q) i h
