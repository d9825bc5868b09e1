-- The lists that the code fills part by part, each part lent to a call: an edge with its ends repeated, the filtered places, and the filtered edge with
-- its ends repeated. Assumes nothing.
use mathlib.Core.Path.{◌≡◌, sym, ◌∙◌, ap}
use mathlib.Core.List.{List, ◌++◌}
use Prim.Native.Nat.{ℕ, ◌+◌, ◌-◌, ◌≤◌, ◌<◌, min}
use native.Mathlib.Omega.{arith}
use lib.ListN.{length, get_or, take, drop}
use lib.IntN.{ℤ, pos}
use borrow.Rule.Slice.PartMut.{put_mid}
use Rattle.lists.specs.Fill.{tab, filled}
use Rattle.lists.proofs.Fill.{filled_next, filled_at, filled-all, length-filled}
use Rattle.lists.proofs.Loop.{filled-front}
use Rattle.kernels.specs.Kernel.{kernel, five}
use Rattle.edge_filter.specs.Filter.{edge, padded, filtered}
use Rattle.edge_filter.specs.Padded.{entry_at, Ends}
use Rattle.edge_filter.proofs.Padded.{pad-corner, pad-in, pad-last}
use Rattle.edge_filter.proofs.Filtered.{filtered-in, filtered-past, filtered-corner}
use Rattle.edge_filter.proofs.Parts.{rest, rest-five}

-- the part of a list from o on, up to e
abbrev part : ℕ → ℕ → List ℤ → List ℤ
part o e xs = take (e - o) (drop o xs)

-- the list with that part exchanged
abbrev put : ℕ → ℕ → List ℤ → List ℤ → List ℤ
put o e xs row = put_mid o (e - o) xs row

-- the corner, the entries, the last of them
module _ (n size : ℕ) (k : ℤ) (es p : List ℤ) (l : 0 < n) (m : n + 7 ≤ size) (q : size ≤ length p) where
  abbrev f : ℕ → ℤ
  f = padded 4 n (edge k es)

  pub pad-list : (x y : ℤ) (r0 r1 r2 : List ℤ) → x ≡ k → y ≡ get_or es (n - 1) (pos 0) → n ≤ length es
      → r0 ≡ tab (length (take 5 p)) (λ i. x)
      → r1 ≡ tab (length (part 5 (n + 5) (r0 ++ drop 5 p))) (λ i. get_or es i (pos 0))
      → r2 ≡ tab (length (part (n + 5) size (put 5 (n + 5) (r0 ++ drop 5 p) r1))) (λ i. y)
      → put (n + 5) size (put 5 (n + 5) (r0 ++ drop 5 p) r1) r2 ≡ filled size f p
  pad-list x y r0 r1 r2 a b h u v w =
      filled_next (n + 5) size f (λ i. y) p (put 5 (n + 5) (r0 ++ drop 5 p) r1) r2 (omega arith) q two w
      (λ i h. b ∙ pad-last n k es (n + 5 + i) l (omega arith))
    where
      one : r0 ++ drop 5 p ≡ filled 5 f p
      one = filled-front 5 f (λ i. x) p r0 (omega arith) u (λ i h. a ∙ pad-corner n k es i h)

      two : put 5 (n + 5) (r0 ++ drop 5 p) r1 ≡ filled (n + 5) f p
      two = filled_next 5 (n + 5) f _ p (r0 ++ drop 5 p) r1 (omega arith) (omega arith) one v (λ i h. pad-in n k es i (omega arith))

module _ (s lim n : ℕ) (xs p : List ℤ) where
  abbrev g : ℕ → ℤ
  g = filtered s lim n (entry_at xs)

  -- the filtered places, and the others
  pub filter-places : (top : ℕ) (r0 r1 : List ℤ) → Ends n xs → 0 < s → 0 < lim → length p ≡ n → top ≡ min n (lim - 1)
      → r0 ≡ tab (length (take top p)) (λ i. five (kernel s 0) (kernel s 1) (kernel s 2) (kernel s 3) (kernel s 4) (λ k. get_or (rest 3 xs) k (pos 0)) i)
      → r1 ≡ tab (length (part top (length (r0 ++ drop top p)) (r0 ++ drop top p))) (λ i. get_or xs (top + 5 + i) (pos 0))
      → put top (length (r0 ++ drop top p)) (r0 ++ drop top p) r1 ≡ tab (length p) (λ i. g (i + 1))
  filter-places top r0 r1 ends l m len t u v =
      filled_next top (length ys) f _ p ys r1 (omega (arith, long)) (omega (arith, long)) one v (λ i h. copied i (omega (arith, long)))
      ∙ filled-all (length ys) f p (omega (arith, long))
    where
      f : ℕ → ℤ
      f i = g (i + 1)

      ys : List ℤ
      ys = r0 ++ drop top p

      one : ys ≡ filled top f p
      one =
          filled-front top f _ p r0 (omega arith) u
          (λ i h. rest-five n xs ends (kernel s 0) (kernel s 1) (kernel s 2) (kernel s 3) (kernel s 4) i (i + 1) (omega arith) (omega arith)
          ∙ sym (filtered-in s lim n (entry_at xs) (i + 1) l (omega arith) (omega arith)))

      long : length ys ≡ n
      long = ap length one ∙ length-filled top f p (omega arith) ∙ len

      copied : (i : ℕ) → i < n - top → get_or xs (top + 5 + i) (pos 0) ≡ f (top + i)
      copied i h =
          ends.repeats (top + 5 + i) (omega arith)
          ∙ ap (entry_at xs) (omega arith)
          ∙ sym (filtered-past s lim n (entry_at xs) (top + i + 1) (omega arith))

  -- the corner, the places, the last of them, which is read back by `read`
  pub filter-list : (size : ℕ) (x : ℤ) (read : ℤ → ℤ) (r0 r1 r2 : List ℤ) → n + 7 ≤ size → size ≤ length p → x ≡ entry_at xs 0
      → ((j : ℕ) → read (padded 4 n g j) ≡ padded 4 n g j)
      → r0 ≡ tab (length (take 5 p)) (λ i. x)
      → r1 ≡ tab (length (part 5 (n + 5) (r0 ++ drop 5 p))) (λ i. g (i + 1))
      → r2 ≡ tab (length (part (n + 5) size (put 5 (n + 5) (r0 ++ drop 5 p) r1))) (λ i. read (get_or (put 5 (n + 5) (r0 ++ drop 5 p) r1) (n + 4) (pos 0)))
      → put (n + 5) size (put 5 (n + 5) (r0 ++ drop 5 p) r1) r2 ≡ filled size (padded 4 n g) p
  filter-list size x read r0 r1 r2 m q a back u v w =
      filled_next (n + 5) size (padded 4 n g) _ p (put 5 (n + 5) (r0 ++ drop 5 p) r1) r2 (omega arith) q two w (λ i h. last ∙ ap g (omega arith))
    where
      one : r0 ++ drop 5 p ≡ filled 5 (padded 4 n g) p
      one =
          filled-front 5 (padded 4 n g) _ p r0 (omega arith) u
          (λ i h. a ∙ sym (filtered-corner s lim n (entry_at xs) (min n (i - 4)) (omega arith)))

      two : put 5 (n + 5) (r0 ++ drop 5 p) r1 ≡ filled (n + 5) (padded 4 n g) p
      two = filled_next 5 (n + 5) (padded 4 n g) _ p (r0 ++ drop 5 p) r1 (omega arith) (omega arith) one v (λ i h. ap g (omega arith))

      last : read (get_or (put 5 (n + 5) (r0 ++ drop 5 p) r1) (n + 4) (pos 0)) ≡ padded 4 n g (n + 4)
      last = ap read (ap (λ (l : List ℤ). get_or l (n + 4) (pos 0)) two ∙ filled_at (n + 5) (padded 4 n g) p (n + 4) (pos 0) (omega arith)) ∙ back (n + 4)
