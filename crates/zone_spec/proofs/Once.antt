-- "Zone 2 gives each sample of the block exactly once" (document 01, Directions): a row's columns before its split are from the left edge, and those
-- from it on are from the edge above. Assumes nothing.
use mathlib.Core.Bool.{Bool, true, false, cond}
use mathlib.Core.Path.{◌≡◌, refl, ap}
use mathlib.Core.List.{List}
use Prim.Native.Nat.{ℕ, ◌+◌, ◌*◌, ◌<◌}
use native.Mathlib.Omega.{arith}
use lib.Dec.{leb, ltb}
use lib.IntN.{ℤ}
use borrow.Author.Tests.{ltb-true, ltb-false, le-leb, lt-leb}
use Rattle.zone_spec.specs.Zones.{back_along, zone2}
use Rattle.zone_spec.specs.Either.{back, either}
use Rattle.zone_spec.specs.Split.{split_of}

module _ (w r c dx : ℕ) (p : 0 < dx) (q : c < w) where
  -- how many columns of row r are from the left edge
  abbrev pub split : ℕ
  split = split_of w ((r + 1) * dx)

  -- the edge above is followed past the corner exactly in the columns before the split
  once : (above left : ℤ) → cond (leb ((r + 1) * dx) (64 * (c + 1))) above left ≡ cond (ltb c split) left above
  once above left = go (ltb c split) refl
    where
      go : (t : Bool) → ltb c split ≡ t → cond (leb ((r + 1) * dx) (64 * (c + 1))) above left ≡ cond t left above
      go true h = ap (λ b. cond b above left) (lt-leb ((r + 1) * dx) (64 * (c + 1)) (omega (arith, ltb-true c split h)))
      go false h = ap (λ b. cond b above left) (le-leb ((r + 1) * dx) (64 * (c + 1)) (omega (arith, ltb-false c split h)))

  -- of the definition: one part or the other, by the column alone
  pub zone2-once : (lum : Bool) (M : ℤ) (h dy : ℕ) (above left : ℕ → ℤ)
      → zone2 lum M w h dx dy above left r c ≡ cond (ltb c split) (back_along lum M h dy left c r) (back_along lum M w dx above r c)
  unfolding zone2
  zone2-once lum M h dy above left = once _ _

  -- of the code's lists
  pub either-once : (lum : Bool) (M : ℤ) (dy : ℕ) (top left : List ℤ)
      → either lum M dx dy top left r c ≡ cond (ltb c split) (back lum M dy left c r) (back lum M dx top r c)
  unfolding either
  either-once lum M dy top left = once _ _
