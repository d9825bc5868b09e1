-- Row i of the plan against row j of the lists: if row j is noted, a clash touches it; if it is not, nothing does. Assumes nothing.
use mathlib.Core.Path.{◌≡◌, refl, sym, ◌∙◌, ap}
use mathlib.Core.Logic.{inl, inr, ⊎_map}
use mathlib.Core.Bool.{Bool, true, false, true≢false}
use mathlib.Core.List.{List}
use Prim.Native.Nat.{ℕ, ◌+◌}
use lib.IntN.{ℤ, pos}
use lib.ListN.{replicate}
use Rattle.reorder.specs.Rect.{Rect}
use Rattle.job.specs.Row.{row_at}
use Rattle.touches.specs.Rects.{clash_of}
use Rattle.order.specs.Sides.{sides_of, block_sides, hull_sides, bounds_at, overlap}
use Rattle.order.specs.Window.{Touch}
use Rattle.each_once.proofs.Seen.{all_same}
use Rattle.clash.proofs.Meets.{clash-meets}
use Rattle.order.proofs.Lists.{overlap-of-meet, overlap-none}

abbrev nothing : Rect
nothing = record { x = 0; y = 0; w = 0; h = 0 }

-- row j is noted in the lists, and it is not
abbrev pub InLists : ℕ → ℕ → ℕ → List ℕ → List ℤ → List ℤ → ℕ → Type 0
InLists W H n plan blocks hulls j = (bounds_at blocks j ≡ block_sides W H n (row_at plan j)) × (bounds_at hulls j ≡ hull_sides W H n (row_at plan j))

abbrev pub NotInLists : List ℤ → List ℤ → ℕ → Type 0
NotInLists blocks hulls j = (bounds_at blocks j ≡ sides_of nothing) × (bounds_at hulls j ≡ sides_of nothing)

pub blank : (j : ℕ) → NotInLists (replicate 4096 (pos 0)) (replicate 4096 (pos 0)) j
blank j = (zeros, zeros)
  where
    zeros : bounds_at (replicate 4096 (pos 0)) j ≡ sides_of nothing
    zeros =
        let z = all_same (pos 0) 4096 in
        λ i. record { x0 = z j i; x1 = z (1024 + j) i; y0 = z (2048 + j) i; y1 = z (3072 + j) i }

module _ (W H n : ℕ) (plan : List ℕ) (blocks hulls : List ℤ) (i j : ℕ) where
  -- row j touches row i
  abbrev Touched : Type 0
  Touched = Touch blocks hulls (block_sides W H n (row_at plan i)) (hull_sides W H n (row_at plan i)) j

  -- a row that is not noted touches nothing
  pub untouched : NotInLists blocks hulls j → ¬ Touched
  untouched r (inl e) = true≢false (sym e ∙ ap (λ u. overlap u (block_sides W H n (row_at plan i))) r.1 ∙ overlap-none _)
  untouched r (inr e) = true≢false (sym e ∙ ap (λ u. overlap u (hull_sides W H n (row_at plan i))) r.0 ∙ overlap-none _)

  -- one that is noted, and clashes, touches
  touched : InLists W H n plan blocks hulls j → clash_of W H n (row_at plan i) (row_at plan j) ≡ true → Touched
  touched r c =
      ⊎_map
      (λ m. ap (λ u. overlap u (block_sides W H n (row_at plan i))) r.1 ∙ overlap-of-meet _ _ m)
      (λ m. ap (λ u. overlap u (hull_sides W H n (row_at plan i))) r.0 ∙ overlap-of-meet _ _ m)
      (clash-meets W H n (row_at plan i) (row_at plan j) c)

  -- so it is free if it is free where it touches
  pub free-if : InLists W H n plan blocks hulls j → (Touched → clash_of W H n (row_at plan i) (row_at plan j) ≡ false)
      → clash_of W H n (row_at plan i) (row_at plan j) ≡ false
  free-if r f = go (clash_of W H n (row_at plan i) (row_at plan j)) refl
    where
      go : (c : Bool) → clash_of W H n (row_at plan i) (row_at plan j) ≡ c → c ≡ false
      go true e = sym e ∙ f (touched r e)
      go false e = refl
