-- The near run with its repeats up to bs, and then the far run, are the entries that `along` names, and those after them repeat the last one.
-- Assumes nothing.
use mathlib.Core.Path.{◌≡◌, sym, ◌∙◌, ap}
use mathlib.Core.List.{List}
use Prim.Native.Nat.{ℕ, ◌+◌, ◌-◌, ◌*◌, ◌≤◌, ◌<◌, min}
use native.Mathlib.Omega.{arith}
use lib.IntN.{ℤ}
use lib.Ieee.{Float}
use lib.ListN.{length, take, drop}
use borrow.Rule.Slice.PartMut.{put_mid}
use Rattle.lists.specs.Fill.{tab, filled}
use Rattle.lists.proofs.Fill.{filled-part, filled-same}
use Rattle.edge_line.specs.Along.{along}
use Rattle.edge_line.specs.Run.{run_at, Line}
use Rattle.edge_line.proofs.Along.{along-near, along-past}
use Rattle.edge_line.proofs.Runs.{far_at}

module _ {size start stride bs a top : ℕ} (l : Line size start stride bs a top) (plane : List Float) (read : Float → ℤ) where
  -- what a sample along the line reads as, and an entry's
  abbrev sample : ℕ → ℤ
  sample i = read (run_at plane start stride i)

  abbrev entry : ℕ → ℤ
  entry c = sample (along bs a top c)

  -- xs is the edge at first
  pub near-half : (near : ℕ) (xs : List ℤ) → near ≡ a → filled bs (λ i. sample (min i (near - 1))) xs ≡ filled bs entry xs
  near-half near xs n =
      let e = l.counts in
      filled-same bs (λ i. sample (min i (near - 1))) entry xs (λ i k. ap sample (omega (arith, along-near bs a top i k)))

  -- ys is the edge after it, and `row` the part that is lent then, from an entry on at which each entry's sample is its own
  pub far-half : (from end : ℕ) (xs ys row : List ℤ) → from ≤ end → end ≤ length ys → ys ≡ filled from entry xs
      → row ≡ tab (length (take (end - from) (drop from ys))) (λ i. read (run_at plane (start + from * stride) stride i))
      → ((i : ℕ) → from ≤ i → i < end → along bs a top i ≡ i)
      → put_mid from (end - from) ys row ≡ filled end entry xs
  far-half from end xs ys row f h e u own =
      filled-part from end entry _ xs ys row f h e u
      (λ i k. ap read (far_at plane start stride from i) ∙ ap sample (sym (own (from + i) (omega arith) (omega arith))))

  -- the entries after them are the last one again
  pub entry_past : (c : ℕ) → bs + top ≤ c → entry (bs + top - 1) ≡ entry c
  entry_past c h =
      let b = l.block.0 in
      let n = l.counts in
      let q : bs + top - 1 ≡ min c (bs + min top bs - 1) = omega arith in
      ap entry q ∙ ap sample (along-past bs a top c)
