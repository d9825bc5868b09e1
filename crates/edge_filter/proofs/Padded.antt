-- An edge as a list with its ends repeated: what stands where, and that the code's list is one (`Ends`). Assumes nothing.
use mathlib.Core.Path.{◌≡◌, sym, ◌∙◌, ap}
use mathlib.Core.Bool.{true}
use mathlib.Core.List.{List}
use Prim.Native.Nat.{ℕ, zero, suc, ◌+◌, ◌-◌, ◌≤◌, ◌<◌, min}
use native.Mathlib.Omega.{arith}
use lib.ListN.{length, get_or}
use lib.IntN.{ℤ, pos}
use Rattle.signed.specs.Range.{inside, Edge}
use Rattle.lists.specs.Fill.{filled}
use Rattle.lists.proofs.Fill.{filled_at, length-filled}
use Rattle.edge_filter.specs.Filter.{edge, padded}
use Rattle.edge_filter.specs.Padded.{entry_at, Ends}

module _ (n : ℕ) (k : ℤ) (es : List ℤ) where
  -- the corner, the entries, the last of them
  pub pad-corner : (j : ℕ) → j < 5 → k ≡ padded 4 n (edge k es) j
  unfolding edge
  pad-corner j h = ap (edge k es) z
    where
      z : 0 ≡ min n (j - 4)
      z = omega arith

  pub pad-in : (i : ℕ) → i < n → get_or es i (pos 0) ≡ padded 4 n (edge k es) (5 + i)
  unfolding edge
  pad-in i h = ap (edge k es) z
    where
      z : suc i ≡ min n (5 + i - 4)
      z = omega arith

  pub pad-last : (j : ℕ) → 0 < n → n + 4 ≤ j → get_or es (n - 1) (pos 0) ≡ padded 4 n (edge k es) j
  unfolding edge
  pad-last j h l = ap (edge k es) z
    where
      z : suc (n - 1) ≡ min n (j - 4)
      z = omega arith

  pub edge-inside : (v : ℕ) → Edge v n es → inside (pos v) k ≡ true → (i : ℕ) → i ≤ n → inside (pos v) (edge k es i) ≡ true
  unfolding edge
  edge-inside v p q zero h = q
  edge-inside v p q (suc i) h = p i (omega arith)

  -- the list that `pad_edge` leaves
  module _ (size : ℕ) (zs xs : List ℤ) (l : n + 7 ≤ size) (m : size ≤ length zs) (e : xs ≡ filled size (padded 4 n (edge k es)) zs) where
    at : (j : ℕ) → j < n + 7 → get_or xs j (pos 0) ≡ padded 4 n (edge k es) j
    at j h = ap (λ (l : List ℤ). get_or l j (pos 0)) e ∙ filled_at size (padded 4 n (edge k es)) zs j (pos 0) (omega arith)

    pub pad-place : (i : ℕ) → i ≤ n → entry_at xs i ≡ edge k es i
    pad-place i h = at (i + 4) (omega arith) ∙ ap (edge k es) z
      where
        z : min n (i + 4 - 4) ≡ i
        z = omega arith

    pub pad-ends : Edge 4095 n es → inside (pos 4095) k ≡ true → Ends n xs
    pad-ends p q = record {
      long = rw (ap length e ∙ length-filled size (padded 4 n (edge k es)) zs m) (omega arith);
      samples = λ j h. rw (at j h) (edge-inside 4095 p q (min n (j - 4)) (omega arith));
      repeats = λ j h. at j h ∙ sym (pad-place (min n (j - 4)) (omega arith));
    }
