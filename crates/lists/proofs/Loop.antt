-- A list that is filled from the front: by a loop, entry after entry, or its first part, which is lent. Assumes nothing.
use mathlib.Core.Path.{◌≡◌, sym, ◌∙◌, ap}
use mathlib.Core.List.{List, ◌++◌}
use Prim.Native.Nat.{ℕ, ◌+◌, ◌≤◌, ◌<◌}
use native.Mathlib.Omega.{arith}
use lib.ListN.{length, set, take, drop, length-take}
use Rattle.lists.specs.Fill.{tab, filled}
use Rattle.lists.proofs.Fill.{tab-same, filled_none, filled_more, filled-all}

module _ {A : Type 0} where
  pub filled-first : (f : ℕ → A) (xs : List A) → xs ≡ filled 0 f xs
  filled-first f xs = sym (filled_none f xs)

  pub filled-step : (n : ℕ) (f : ℕ → A) (xs ys : List A) (v : A) → ys ≡ filled n f xs → n < length xs → v ≡ f n → set ys n v ≡ filled (n + 1) f xs
  filled-step n f xs ys v e h u = filled_more n f xs ys v v h e u

  pub filled-last : (n : ℕ) (f : ℕ → A) (xs ys : List A) → ys ≡ filled n f xs → n ≤ length xs → length xs ≤ n → ys ≡ tab (length xs) f
  filled-last n f xs ys e h k = e ∙ filled-all n f xs (omega arith)

  -- the first n entries, which are lent as `&mut xs[..n]`
  pub filled-front : (n : ℕ) (f g : ℕ → A) (xs row : List A) → n ≤ length xs → row ≡ tab (length (take n xs)) g → ((i : ℕ) → i < n → g i ≡ f i)
      → row ++ drop n xs ≡ filled n f xs
  filled-front n f g xs row h e same =
      let long : length (take n xs) ≡ n = simp length-take (omega arith) in
      ap (λ (l : List A). l ++ drop n xs) (e ∙ ap (λ (m : ℕ). tab m g) long ∙ tab-same n g f same)
