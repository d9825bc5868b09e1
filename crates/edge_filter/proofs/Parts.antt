-- Parts that are lent: what fills a list part by part, and a list with its ends repeated from an entry on, with the five entries that a filtered
-- place reads. Assumes nothing.
use mathlib.Core.Bool.{true}
use mathlib.Core.Path.{◌≡◌, sym, ◌∙◌, ap}
use mathlib.Core.List.{List}
use Prim.Native.Nat.{ℕ, ◌+◌, ◌-◌, ◌≤◌, ◌<◌, min}
use native.Mathlib.Omega.{arith}
use lib.ListN.{length, get_or, take, drop, length-take}
use lib.IntN.{ℤ, pos}
use Rattle.signed.specs.Range.{inside, Edge}
use Rattle.lists.proofs.Fill.{rest_at, rest-each, rest-length}
use Rattle.kernels.specs.Kernel.{five, taps5}
use Rattle.edge_filter.specs.Filter.{padded}
use Rattle.edge_filter.specs.Padded.{entry_at, Ends}

abbrev pub rest : ℕ → List ℤ → List ℤ
rest s xs = take (length xs - s) (drop s xs)

module _ (n : ℕ) (xs : List ℤ) (h : Ends n xs) where
  edge-from : (s m : ℕ) → s + m ≤ n + 7 → Edge 4095 m (rest s xs)
  edge-from s m r = rest-each (λ z. inside (pos 4095) z ≡ true) (n + 7) m s xs (pos 0) h.long r h.samples

  -- what a part of at most k entries, to be filtered, asks of the list that is lent from s on
  pub rest-blur : (s k : ℕ) (ys : List ℤ) → s + k + 4 ≤ n + 7
      → (length (take k ys) + 4 ≤ length (rest s xs)) × Edge 4095 (length (take k ys) + 4) (rest s xs)
  rest-blur s k ys r =
      let m = length-take k ys in
      let l = h.long in
      let u : length (take k ys) ≤ k = omega arith in
      (omega (arith, rest-length s xs), edge-from s (length (take k ys) + 4) (omega arith))

  -- an entry that is lent from s on, by its place
  pub rest-place : (s i j : ℕ) → s + i < n + 7 → j ≡ min n (s + i - 4) → get_or (rest s xs) i (pos 0) ≡ entry_at xs j
  rest-place s i j r e =
      let l = h.long in
      rest_at s xs i (pos 0) (omega arith) ∙ h.repeats (s + i) r ∙ ap (entry_at xs) (sym e)

  -- the five entries from i on, lent from 3 on, are those about place i + 1
  pub rest-five : (k0 k1 k2 k3 k4 : ℤ) (i b : ℕ) → i < n → b ≡ i + 1
      → five k0 k1 k2 k3 k4 (λ k. get_or (rest 3 xs) k (pos 0)) i ≡ five k0 k1 k2 k3 k4 (padded 2 n (entry_at xs)) b
  rest-five k0 k1 k2 k3 k4 i b l e = λ j.
      taps5 k0 k1 k2 k3 k4
      (p i b (omega arith) (omega arith) j)
      (p (i + 1) (b + 1) (omega arith) (omega arith) j)
      (p (i + 2) (b + 2) (omega arith) (omega arith) j)
      (p (i + 3) (b + 3) (omega arith) (omega arith) j)
      (p (i + 4) (b + 4) (omega arith) (omega arith) j)
    where
      p : (t u : ℕ) → t < n + 4 → u ≡ t + 1 → get_or (rest 3 xs) t (pos 0) ≡ padded 2 n (entry_at xs) u
      p t u m d = rest-place 3 t (min n (u - 2)) (omega arith) (omega arith)
