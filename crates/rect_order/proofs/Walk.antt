-- The walk over the order, with the rows that have run in the columns. Assumes nothing.
use mathlib.Core.Path.{◌≡◌, ◌∙◌}
use mathlib.Core.Bool.{Bool, true, false}
use mathlib.Core.List.{List}
use Prim.Native.Nat.{ℕ, ◌+◌, ◌*◌, ◌≤◌, ◌<◌}
use native.Mathlib.Omega.{arith}
use lib.IntN.{ℤ, pos}
use lib.ListN.{length, replicate}
use Rattle.reorder.specs.Once.{Once}
use Rattle.reorder.specs.Check.{kept_b}
use Rattle.reorder.proofs.Once.{fresh-of-once}
use Rattle.reorder.proofs.Check.{once-decides}
use Rattle.reorder.proofs.Walk.{entry, Walked, walked_none, walked-found, walked_more, walked_all}
use Rattle.each_once.proofs.Seen.{all_same}
use Rattle.rect_order.specs.Table.{clash_in, Tabled}
use Rattle.rect_order.specs.Columns.{Entered, Tells, Struck}
use Rattle.rect_order.proofs.Table.{clash-turned}
use Rattle.rect_order.proofs.Rows.{InColumns, NotInColumns}
use Rattle.rect_order.proofs.Struck.{not-struck, struck-clashes, not-struck-free}

-- k entries are passed, and their rows are in the columns
abbrev pub InWalk : List ℤ → List ℕ → List ℤ → ℕ → ℕ → Type 0
InWalk table order columns k top = Walked (clash_in table) (length order) order (InColumns table columns) (NotInColumns columns) k top

module _ (table : List ℤ) (order : List ℕ) (t : Tabled table order) where
  once : Once (length order) order
  once = (once-decides (length order) order).0 t.once

  pub entry-below : (a : ℕ) → a < length order → entry order a < length order
  entry-below a h = (fresh-of-once (length order) order once).below a h

  pub in-walk-none : InWalk table order (replicate 24576 (pos 0)) 0 0
  in-walk-none = walked_none (clash_in table) (clash-turned table) (length order) order once _ _ (λ j h m l. all_same (pos 0) 24576 (1024 * m + j))

  module _ (columns : List ℤ) (k top : ℕ) (s : InWalk table order columns k top) where
    pub in-walk-all : length order ≤ k → true ≡ kept_b (clash_in table) (length order) order
    in-walk-all h = walked_all (clash_in table) (clash-turned table) (length order) order once _ _ k top s h

    module _ (h : k < length order) (r : Bool) (f : Tells (Struck columns table (entry order k)) (entry order k + 1) top r) where
      -- a row after it that has run clashes
      pub in-walk-found : r ≡ true → false ≡ kept_b (clash_in table) (length order) order
      in-walk-found e =
          let q = f.some e in
          walked-found (clash_in table) (clash-turned table) (length order) order once _ _ k top s h q.0 (omega (arith, q.1)) q.2
          (λ c. struck-clashes table columns _ _ c q.3) (λ c. not-struck table columns _ _ c q.3)

      -- none does, and the row is entered
      pub in-walk-more : r ≡ false → (top' : ℕ) → top ≤ top' → entry order k < top' → top' ≤ length order
          → (columns' : List ℤ) → Entered table columns columns' (entry order k) 24 → InWalk table order columns' (k + 1) top'
      in-walk-more e top' over above within columns' n =
          walked_more (clash_in table) (clash-turned table) (length order) order once _ _ k top s (InColumns table columns') (NotInColumns columns') top' h
          over above within
          (λ j l m c. not-struck-free table columns _ _ c (f.none e j (omega arith) m))
          n.here
          (λ j l ne. (λ c m q. n.other m j (omega (arith, t.few)) ne ∙ c m q, λ c m q. n.other m j (omega (arith, t.few)) ne ∙ c m q))
