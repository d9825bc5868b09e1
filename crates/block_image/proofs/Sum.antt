-- Sums of words: of the same words, with zeros after them, and of words that differ in one place. Assumes nothing.
use mathlib.Core.Path.{◌≡◌, refl, sym, ◌∙◌, ap}
use mathlib.Core.Logic.{⊎_elim}
use Prim.Native.Nat.{ℕ, zero, suc, ◌+◌, ◌*◌, ◌%◌, ◌^◌, ◌<◌, ◌≤◌}
use native.Mathlib.Nat.{eq-or-lt_of_le, le_of_suc-le-suc, mod-add-mod}
use native.Mathlib.Numerals.{add-one}
use native.Mathlib.Omega.{arith}
use Rattle.block_image.specs.Bytes.{word32, sum_to}

-- no word, and one word more
pub sum-none : (at : ℕ → ℕ) → 0 ≡ sum_to at 0 % 2 ^ 32
unfolding sum_to
sum-none at = refl

pub sum-next : (at : ℕ → ℕ) (s j : ℕ) → s ≡ sum_to at j % 2 ^ 32 → (s + word32 at (4 * j)) % 2 ^ 32 ≡ sum_to at (j + 1) % 2 ^ 32
unfolding sum_to
sum-next at s j h =
    ap (λ (x : ℕ). (x + word32 at (4 * j)) % 2 ^ 32) h
    ∙ mod-add-mod (sum_to at j) (2 ^ 32) (word32 at (4 * j))
    ∙ ap (λ (x : ℕ). sum_to at x % 2 ^ 32) (sym (add-one j))

-- words of zeros add nothing
pub sum_zeros : (at : ℕ → ℕ) (m n : ℕ) → m ≤ n → ((b : ℕ) → 4 * m ≤ b → b < 4 * n → at b ≡ 0) → sum_to at m ≡ sum_to at n
unfolding sum_to
sum_zeros at m zero l h = let z : m ≡ 0 = omega arith in ap (sum_to at) z
sum_zeros at m (suc n) l h =
    ⊎_elim
    (λ (e : m ≡ suc n). ap (sum_to at) e)
    (λ (k : m < suc n).
    let s = sum_zeros at m n (le_of_suc-le-suc k) (λ b p q. h b p (omega arith)) in
    let a = h (4 * n) (omega arith) (omega arith) in
    let b = h (4 * n + 1) (omega arith) (omega arith) in
    let c = h (4 * n + 2) (omega arith) (omega arith) in
    let d = h (4 * n + 3) (omega arith) (omega arith) in
    omega arith)
    (eq-or-lt_of_le l)

module _ (at at' : ℕ → ℕ) where
  pub sum-words : (n : ℕ) → ((i : ℕ) → i < n → word32 at (4 * i) ≡ word32 at' (4 * i)) → sum_to at n ≡ sum_to at' n
  unfolding sum_to
  sum-words zero h = refl
  sum-words (suc n) h = λ j. sum-words n (λ i l. h i (omega arith)) j + h n (omega arith) j

  pub sum_same : (n : ℕ) → ((b : ℕ) → b < 4 * n → at b ≡ at' b) → sum_to at n ≡ sum_to at' n
  sum_same n h =
      sum-words n
      (λ i l j. h (4 * i) (omega arith) j + 256 * h (4 * i + 1) (omega arith) j + 65536 * h (4 * i + 2) (omega arith) j + 16777216 * h (4 * i + 3) (omega arith) j)

  -- all words but word j are the same
  pub sum_one : (n j : ℕ) → j < n → ((i : ℕ) → i < n → (i ≡ j → ⊥) → word32 at (4 * i) ≡ word32 at' (4 * i))
      → sum_to at n + word32 at' (4 * j) ≡ sum_to at' n + word32 at (4 * j)
  unfolding sum_to
  sum_one zero j l h = absurd (omega arith)
  sum_one (suc n) j l h =
      ⊎_elim
      (λ e.
      let s = sum-words n (λ i k. h i (omega arith) (λ (q : i ≡ j). omega arith)) in
      rw (e) (omega arith))
      (λ k.
      let s = sum_one n j k (λ i m d. h i (omega arith) d) in
      let w = h n (omega arith) (λ (q : n ≡ j). omega arith) in
      omega arith)
      (eq-or-lt_of_le (le_of_suc-le-suc l))
