-- What the check catches: any one word changed, its own included. Assumes nothing.
use mathlib.Core.Path.{◌≡◌, sym, ◌∙◌}
use mathlib.Core.Bool.{true, false}
use mathlib.Core.Logic.{⊎_elim}
use Prim.Native.Nat.{ℕ, ◌*◌, ◌%◌, ◌<◌}
use native.Mathlib.Nat.{eq-or-lt_of_le, le_of_suc-le-suc}
use native.Mathlib.Omega.{arith}
use borrow.Author.Tests.{eqb-true, ne_eqb}
use Rattle.block_image.specs.Bytes.{word32, check_of}
use Rattle.block_image.specs.Rules.{is_check}
use Rattle.block_image.proofs.Digits.{word-most}
use Rattle.block_image.proofs.Sum.{sum-words, sum_one}

module _ (at at' : ℕ → ℕ) (small : (b : ℕ) → at b < 256) (small' : (b : ℕ) → at' b < 256) where
  -- a block whose check is right, with word j changed and no other, has a wrong check
  pub one-word-caught : (j : ℕ) → j < 128 → (word32 at (4 * j) ≡ word32 at' (4 * j) → ⊥)
      → ((i : ℕ) → i < 128 → (i ≡ j → ⊥) → word32 at (4 * i) ≡ word32 at' (4 * i)) → is_check at ≡ true → is_check at' ≡ false
  unfolding is_check
  one-word-caught j l differs same right =
      let p : word32 at 508 ≡ check_of at = eqb-true _ _ right in
      ne_eqb (word32 at' 508) (check_of at')
      (λ (q : word32 at' 508 ≡ check_of at').
      ⊎_elim
      (λ (e : j ≡ 127).
      let s = sum-words at at' 127 (λ i k. same i (omega arith) (λ (d : i ≡ j). omega arith)) in
      differs (rw e (p ∙ (λ t. s t % 4294967296) ∙ sym q)))
      (λ (k : j < 127).
      let s = sum_one at at' 127 j k (λ i m d. same i (omega arith) d) in
      let c : word32 at 508 ≡ word32 at' 508 = same 127 (omega arith) (λ (d : 127 ≡ j). omega arith) in
      let a = word-most at small (4 * j) in
      let b = word-most at' small' (4 * j) in
      differs (omega arith))
      (eq-or-lt_of_le (le_of_suc-le-suc l)))
