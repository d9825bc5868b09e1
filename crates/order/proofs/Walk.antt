-- The walk over the order, with the blocks and hulls of the rows that have run in the lists. The walk by itself is reorder/proofs/Walk. Assumes
-- nothing.
use mathlib.Core.Path.{◌≡◌, ◌∙◌}
use mathlib.Core.Bool.{Bool, true, false}
use mathlib.Core.List.{List}
use Prim.Native.Nat.{ℕ, ◌+◌, ◌≤◌, ◌<◌}
use native.Mathlib.Omega.{arith}
use lib.IntN.{ℤ, pos}
use lib.ListN.{length, replicate}
use Rattle.reorder.specs.Once.{Once}
use Rattle.reorder.specs.Check.{kept_b}
use Rattle.reorder.proofs.Once.{fresh-of-once}
use Rattle.reorder.proofs.Check.{once-decides}
use Rattle.reorder.proofs.Walk.{entry, Walked, walked_none, walked-found, walked_more, walked_all}
use Rattle.job.specs.Row.{row_at}
use Rattle.touches.specs.Rects.{clash_of}
use Rattle.order.specs.Rules.{is_kept}
use Rattle.order.specs.Sides.{block_sides, hull_sides, noted}
use Rattle.order.specs.Window.{Searched, Walk}
use Rattle.order.specs.declared.bound_lists.Sides.{Sides}
use Rattle.clash.proofs.Meets.{clash-turned}
use Rattle.order.proofs.Entries.{jobs-in}
use Rattle.order.proofs.Lists.{noted-at, noted_other}
use Rattle.order.proofs.Touched.{InLists, NotInLists, blank, untouched, free-if}

-- rows i and j of the plan clash
abbrev rows_clash : ℕ → ℕ → ℕ → List ℕ → ℕ → ℕ → Bool
rows_clash W H n plan i j = clash_of W H n (row_at plan i) (row_at plan j)

-- k entries are passed, and their rows are noted
abbrev pub InWalk : ℕ → ℕ → ℕ → List ℕ → List ℕ → ℕ → ℕ → List ℤ → List ℤ → Type 0
InWalk W H n plan order k top blocks hulls =
    Walked (rows_clash W H n plan) (length order) order (InLists W H n plan blocks hulls) (NotInLists blocks hulls) k top

module _ (W H n : ℕ) (plan order : List ℕ) (w : Walk W H plan order) where
  once : Once (length order) order
  once = (once-decides (length order) order).0 w.once

  turned : (i j : ℕ) → rows_clash W H n plan i j ≡ rows_clash W H n plan j i
  turned i j = clash-turned W H n (row_at plan i) (row_at plan j)

  kept-is : kept_b (rows_clash W H n plan) (length order) order ≡ is_kept W H n plan order
  unfolding is_kept
  kept-is = rw (jobs-in plan order w.whole)

  pub entry-below : (a : ℕ) → a < length order → entry order a < length order
  entry-below a h = (fresh-of-once (length order) order once).below a h

  pub in-walk-none : InWalk W H n plan order 0 0 (replicate 4096 (pos 0)) (replicate 4096 (pos 0))
  in-walk-none = walked_none (rows_clash W H n plan) turned (length order) order once _ _ (λ j h. blank j)

  module _ (k top : ℕ) (blocks hulls : List ℤ) (s : InWalk W H n plan order k top blocks hulls) where
    pub in-walk-all : length order ≤ k → true ≡ is_kept W H n plan order
    in-walk-all h = walked_all (rows_clash W H n plan) turned (length order) order once _ _ k top s h ∙ kept-is

    -- the bounds of entry k's row
    abbrev block : Sides
    block = block_sides W H n (row_at plan (entry order k))

    abbrev hull : Sides
    hull = hull_sides W H n (row_at plan (entry order k))

    module _ (h : k < length order) (r : Bool) (t : Searched W H n plan (entry order k) top blocks hulls block hull r) where
      -- a row after it that has run clashes: the pair is turned round
      pub in-walk-found : r ≡ true → false ≡ is_kept W H n plan order
      in-walk-found e =
          let f = t.found e in
          walked-found (rows_clash W H n plan) turned (length order) order once _ _ k top s h f.0 f.1 f.2
          (λ ran. f.4) (λ not-ran. untouched W H n plan blocks hulls (entry order k) f.0 not-ran f.3)
          ∙ kept-is

      -- none does: it is passed, and noted
      pub in-walk-more : r ≡ false → (top' : ℕ) → top ≤ top' → entry order k < top' → top' ≤ length order → length blocks ≡ 4096 → length hulls ≡ 4096
          → InWalk W H n plan order (k + 1) top' (noted blocks (entry order k) block) (noted hulls (entry order k) hull)
      in-walk-more e top' over above within lb lh =
          walked_more (rows_clash W H n plan) turned (length order) order once _ _ k top s _ _ top' h over above within
          (λ j l m ran. free-if W H n plan blocks hulls (entry order k) j ran (t.free e j l m))
          (noted-at blocks _ _ lb small, noted-at hulls _ _ lh small)
          (λ j l ne.
          let b = noted_other blocks (entry order k) block j ne small (omega (arith, w.few)) in
          let g = noted_other hulls (entry order k) hull j ne small (omega (arith, w.few)) in
          (λ q. (b ∙ q.0, g ∙ q.1), λ q. (b ∙ q.0, g ∙ q.1)))
        where
          small : entry order k < 1024
          small = omega (arith, entry-below k h, w.few)
