-- "8 in place of 13" (document 02, request (v)): where the samples that a colour job reads are numbers in 0..M, refusal 13 is never given, neither of
-- derivation nor of prediction. A reading is at most M, so that times 8 it is at most 8M. Assumes nothing.
use mathlib.Core.Path.{◌≡◌, refl}
use mathlib.Core.Bool.{true}
use mathlib.Core.List.{List}
use Prim.Native.Nat.{ℕ, ◌+◌, ◌*◌}
use native.Mathlib.Omega.{arith}
use lib.IntN.{pos}
use lib.Ieee.{Float}
use Rattle.numbers.specs.Colour.{the_colour}
use Rattle.numbers.specs.Depth.{most}
use Rattle.signed.specs.Range.{inside}
use Rattle.signed.proofs.Range.{pos-inside}
use Rattle.samples.proofs.Reading.{reading-most}
use Rattle.edge_line.proofs.Every.{every-all, and-of}
use Rattle.colour_samples.specs.Sample.{in_range, in_range_at}
use Rattle.colour_sums.specs.Places.{counts}
use Rattle.colour_sums.specs.Sum.{is_readable}
use Rattle.colour_sums.proofs.Same.{walk-all}
use Rattle.colour_rules.specs.Needed.{Place, value_at, centre_at, direction_at}
use Rattle.colour_rules.specs.Rules.{is_luma_in_range}
use Rattle.colour_words.specs.declared.ColourWords.{ColourWords}
use Rattle.colour_words.specs.Colour.{colour_window, colour_block}
use Rattle.colour_words.specs.Placed.{ColourPlaced}
use Rattle.colour_words.proofs.Window.{InWindow, counted-in, direction-in, centre-needed-in, direction-needed-in}
use Rattle.colour_windows.specs.Windows.{luma_in, chroma_in, luma_read, chroma_read}
use Rattle.colour_windows.proofs.Tested.{luma-at, chroma-at}

module _ (W H : ℕ) (c : ColourWords) (placed : ColourPlaced W H c) where
  abbrev M : ℕ
  M = most c.d

  -- ---- what 8 has shown of a sample
  module _ (luma : List Float) (read : luma_read W c luma ≡ true) where
    luma-in : (i j : ℕ) → InWindow c i j → inside (pos (8 * M + 7)) (luma_in W c luma i j) ≡ true
    luma-in i j h = pos-inside (8 * M + 7) _ (omega (arith, reading-most c.d _ placed.is-depth (luma-at W c luma read i j h.0 h.1)))

    needed-in : (q : Place) → InWindow c q.x q.y → inside (pos (8 * M + 7)) (value_at (luma_in W c luma) q) ≡ true
    needed-in q h = luma-in q.x q.y h

    -- ---- 13 of prediction
    luma-in-range : is_luma_in_range (luma_in W c luma) (colour_block c) ≡ true
    unfolding is_luma_in_range
    luma-in-range =
        every-all _ c.height (λ j hj. every-all _ c.width (λ i hi. and-of _ _
        (needed-in (centre_at (colour_block c) i j) (centre-needed-in W H c placed i j hi hj))
        (and-of _ _ (needed-in (direction_at (colour_block c) i j) (direction-needed-in W H c placed i j hi hj)) refl)))

    -- ---- 13 of derivation
    module _ (chroma : List Float) (counted : chroma_read W c chroma ≡ true) where
      chroma-in : (i j : ℕ) → counts (colour_window c) i j ≡ true → inside (pos M) (chroma_in W c chroma i j) ≡ true
      chroma-in i j e = pos-inside M _ (reading-most c.d _ placed.is-depth (chroma-at W c chroma counted i j e))

      window-readable : is_readable M (the_colour c.direction) (luma_in W c luma) (chroma_in W c chroma) (colour_window c) ≡ true
      unfolding in_range_at in_range
      window-readable =
          walk-all (colour_window c) _ (λ x y e. and-of _ _
          (and-of _ _ (luma-in _ _ (direction-in c x y e (the_colour c.direction))) (luma-in x y (counted-in c x y e)))
          (chroma-in x y e))

      -- ---- 13 of both
      pub no-thirteen :
          (is_readable (most c.d) (the_colour c.direction) (luma_in W c luma) (chroma_in W c chroma) (colour_window c) ≡ true)
          × (is_luma_in_range (luma_in W c luma) (colour_block c) ≡ true)
      no-thirteen = (window-readable, luma-in-range)
