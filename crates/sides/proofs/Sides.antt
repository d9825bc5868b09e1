-- The neighbours by places in the plane's list are those by rows and columns, and lie in the plane: their entries' numbers are the ones of Behind.
-- Where one neighbour is missing and the other is there, the corner's sample is the one behind every entry of the missing one. Assumes nothing.
use mathlib.Core.Path.{◌≡◌, refl, sym, ◌∙◌, ap}
use mathlib.Core.Bool.{Bool, true, false, cond}
use mathlib.Core.List.{List}
use Prim.Native.Nat.{ℕ, ◌+◌, ◌-◌, ◌*◌, min}
use native.Mathlib.Nat.{add-mul}
use native.Mathlib.Omega.{arith}
use lib.IntN.{ℤ, pos, ◌+ℤ◌, ◌-ℤ◌}
use lib.Ieee.{Float, nan}
use lib.ListN.{get_or}
use Rattle.samples.specs.Sample.{reading}
use Rattle.edge_line.specs.Along.{along}
use Rattle.edge_line.proofs.Along.{along-least}
use Rattle.block_spec.specs.declared.spec.IntraRefSpec.{IntraRefSpec}
use Rattle.block_spec.specs.Behind.{Behind, place, number, above_behind, left_behind, corner_behind}
use Rattle.block_spec.specs.Placed.{Placed}
use Rattle.block_spec.proofs.Placed.{up_to}
use Rattle.block_spec.proofs.Behind.{neighbours, above-there, above-by-left, above-by-base, left_there, left-by-above, left-by-base, corner-by-above, corner-by-left}
use Rattle.sides.specs.declared.Spot.{Spot}
use Rattle.sides.specs.declared.Spot.TheVariants.{Sample, Number}
use Rattle.sides.specs.Spot.{spot_of, SpotLies}
use Rattle.sides.specs.Side.{side_value, SideLies, above_side, left_side, above_spare, left_spare}
use Rattle.sides.specs.Values.{value_of}
use Rattle.sides.proofs.Lines.{above-line, left-line}

-- one of two
either : (W : ℕ) (t : Bool) (x y : Spot) (a b : Behind) → x ≡ spot_of W a → y ≡ spot_of W b → cond t x y ≡ spot_of W (cond t a b)
either W true x y a b p q = p
either W false x y a b p q = q

-- an entry's sample, as the code has the counts
far-is : (B a top c : ℕ) → along B (min a B) (B + min top B - B) c ≡ along B a top c
far-is B a top c = let more : B + min top B - B ≡ min top B = omega arith in ap (λ n. along B (min a B) n c) more ∙ along-least B a top c

module _ (W : ℕ) (s : IntraRefSpec) where
  -- how far along its line a neighbour's entry lies, as the code has its counts
  abbrev above-far : ℕ → ℕ
  above-far c = along s.b (min s.available_above s.b) (s.b + min s.top_right s.b - s.b) c

  abbrev left_far : ℕ → ℕ
  left_far c = along s.b (min s.available_left s.b) (s.b + min s.bottom_left s.b - s.b) c

  pub above_place : (c : ℕ) → (s.y - 1) * W + s.x + above-far c * 1 ≡ (s.y - 1) * W + (s.x + along s.b s.available_above s.top_right c)
  above_place c = omega (arith, far-is s.b s.available_above s.top_right c)

  pub left-place : (c : ℕ) → s.y * W + (s.x - 1) + left_far c * W ≡ (s.y + along s.b s.available_left s.bottom_left c) * W + (s.x - 1)
  left-place c =
      ap (λ k. s.y * W + (s.x - 1) + k * W) (far-is s.b s.available_left s.bottom_left c)
      ∙ omega (arith, add-mul s.y (along s.b s.available_left s.bottom_left c) W)

  -- the corner without a neighbour above
  pub corner-missing : s.have_above ≡ false
      → spot_of W (corner_behind s) ≡ cond s.have_left (Sample (s.y * W + (s.x - 1))) (Number (pos s.base))
  unfolding corner_behind
  corner-missing a = rw a (sym (either W s.have_left _ _ _ _ refl refl))

  -- the entries' numbers, with the corner's at hand
  module _ (plane : List Float) (corner : ℤ) (e : corner ≡ value_of W plane (corner_behind s)) (c : ℕ) where
    abbrev at : ℕ → ℤ
    at k = pos (reading (get_or plane k nan))

    abbrev above_at : ℤ
    above_at = at ((s.y - 1) * W + s.x + above-far c * 1)

    abbrev left_at : ℤ
    left_at = at (s.y * W + (s.x - 1) + left_far c * W)

    pub above-value : side_value plane (above_side W s) (above_spare s corner) c ≡ value_of W plane (above_behind s c)
    above-value = neighbours s.have_above s.have_left (λ a l. there a) (λ a l. there a) by_left by-base
      where
        there : s.have_above ≡ true → side_value plane (above_side W s) (above_spare s corner) c ≡ value_of W plane (above_behind s c)
        there a = (λ j. cond (a j) above_at (above_spare s corner)) ∙ ap at (above_place c) ∙ sym (ap (value_of W plane) (above-there s a c))

        by_left : s.have_above ≡ false → s.have_left ≡ true → side_value plane (above_side W s) (above_spare s corner) c ≡ value_of W plane (above_behind s c)
        by_left a l =
            (λ j. cond (a j) above_at (cond (l j) corner (pos s.base -ℤ pos 1)))
            ∙ e
            ∙ ap (value_of W plane) (corner-by-left s a l ∙ sym (above-by-left s a l c))

        by-base : s.have_above ≡ false → s.have_left ≡ false → side_value plane (above_side W s) (above_spare s corner) c ≡ value_of W plane (above_behind s c)
        by-base a l = (λ j. cond (a j) above_at (cond (l j) corner (pos s.base -ℤ pos 1))) ∙ sym (ap (value_of W plane) (above-by-base s a l c))

    pub left-value : side_value plane (left_side W s) (left_spare s corner) c ≡ value_of W plane (left_behind s c)
    left-value = neighbours s.have_above s.have_left (λ a l. there l) by-above (λ a l. there l) by-base
      where
        there : s.have_left ≡ true → side_value plane (left_side W s) (left_spare s corner) c ≡ value_of W plane (left_behind s c)
        there l = (λ j. cond (l j) left_at (left_spare s corner)) ∙ ap at (left-place c) ∙ sym (ap (value_of W plane) (left_there s l c))

        by-above : s.have_above ≡ true → s.have_left ≡ false → side_value plane (left_side W s) (left_spare s corner) c ≡ value_of W plane (left_behind s c)
        by-above a l =
            (λ j. cond (l j) left_at (cond (a j) corner (pos s.base +ℤ pos 1)))
            ∙ e
            ∙ ap (value_of W plane) (corner-by-above s a l ∙ sym (left-by-above s l a c))

        by-base : s.have_above ≡ false → s.have_left ≡ false → side_value plane (left_side W s) (left_spare s corner) c ≡ value_of W plane (left_behind s c)
        by-base a l = (λ j. cond (l j) left_at (cond (a j) corner (pos s.base +ℤ pos 1))) ∙ sym (ap (value_of W plane) (left-by-base s l a c))

module _ {n W : ℕ} {s : IntraRefSpec} (p : Placed n W s) where
  pub above-lies : SideLies n (above_side W s)
  above-lies = record { block = p.stands.side; ends = omega arith; line = above-line p }

  pub left-lies : SideLies n (left_side W s)
  left-lies = record { block = p.stands.side; ends = omega arith; line = left-line p }

  pub corner-lies : SpotLies n (spot_of W (corner_behind s))
  unfolding corner_behind
  corner-lies = by s.have_above s.have_left
    where
      by : (a l : Bool)
          → SpotLies n (spot_of W (cond a (cond l (place (s.y - 1) (s.x - 1)) (place (s.y - 1) s.x)) (cond l (place s.y (s.x - 1)) (number (pos s.base)))))
      by true true = up_to p _ _ (omega arith) (omega arith)
      by true false = up_to p _ _ (omega arith) (omega arith)
      by false true = up_to p _ _ (omega arith) (omega arith)
      by false false = tt
