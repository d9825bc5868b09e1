-- A colour job hangs on what it reads alone, its luma window and the chroma samples that count: where two pairs of planes agree on these, the answer
-- and each predicted sample of the block are the same. Assumes nothing.
use mathlib.Core.Path.{◌≡◌, ap}
use mathlib.Core.Bool.{true, ◌&&◌}
use mathlib.Core.List.{List, [], ◌∷◌}
use Prim.Native.Nat.{ℕ, ◌*◌, ◌<◌}
use lib.IntN.{pos}
use lib.Ieee.{Float, nan}
use lib.ListN.{get_or}
use Rattle.numbers.specs.Colour.{the_colour}
use Rattle.numbers.specs.Depth.{most}
use Rattle.numbers.specs.declared.answer.Refusal.TheVariants.{BadSample, SumTooLarge}
use Rattle.refusals.specs.Ladder.{◌else◌, ladder}
use Rattle.samples.specs.Sample.{is_sample, reading}
use Rattle.edge_line.proofs.Every.{every-same}
use Rattle.colour_sums.specs.Places.{counts}
use Rattle.colour_sums.specs.Sum.{sums_of, count_of}
use Rattle.colour_sums.proofs.Same.{walk_same, sums_same}
use Rattle.colour_solve.specs.Small.{is_small}
use Rattle.colour_solve.specs.Shift.{params_of}
use Rattle.colour_params.specs.Derived.{window_params}
use Rattle.colour_rules.specs.Needed.{Place, value_at, centre_at, direction_at}
use Rattle.colour_words.specs.declared.ColourWords.{ColourWords}
use Rattle.colour_words.specs.Colour.{colour_window, colour_block, luma_place, chroma_place}
use Rattle.colour_words.specs.Placed.{ColourPlaced}
use Rattle.colour_words.proofs.Window.{InWindow, counted-in, direction-in, centre-needed-in, direction-needed-in}
use Rattle.colour_windows.specs.Windows.{luma_in, chroma_in, luma_read, chroma_read}
use Rattle.colour_job.specs.Answer.{colour_small, colour_answer}
use Rattle.colour_job.specs.Done.{colour_params, colour_at}

module _ (W H : ℕ) (c : ColourWords) (placed : ColourPlaced W H c) (luma luma' chroma chroma' : List Float)
    (agree-luma : (i j : ℕ) → i < c.ref_width → j < c.ref_height → get_or luma (luma_place W c i j) nan ≡ get_or luma' (luma_place W c i j) nan)
    (agree-chroma : (i j : ℕ) → counts (colour_window c) i j ≡ true
    → get_or chroma (chroma_place W c i j) nan ≡ get_or chroma' (chroma_place W c i j) nan) where
  -- ---- what the windows hold
  luma-same : (i j : ℕ) → InWindow c i j → luma_in W c luma i j ≡ luma_in W c luma' i j
  luma-same i j h = ap (λ v. pos (8 * reading v)) (agree-luma i j h.0 h.1)

  chroma-same : (i j : ℕ) → counts (colour_window c) i j ≡ true → chroma_in W c chroma i j ≡ chroma_in W c chroma' i j
  chroma-same i j e = ap (λ v. pos (reading v)) (agree-chroma i j e)

  value_same : (q : Place) → InWindow c q.x q.y → value_at (luma_in W c luma) q ≡ value_at (luma_in W c luma') q
  value_same q h = luma-same q.x q.y h

  -- ---- the tests of them, and their sums
  luma-read-same : luma_read W c luma ≡ luma_read W c luma'
  unfolding luma_read
  luma-read-same =
      every-same _ _ c.ref_height (λ j k. every-same _ _ c.ref_width (λ i l. ap (is_sample (pos (most c.d))) (agree-luma i j l k)))

  chroma-read-same : chroma_read W c chroma ≡ chroma_read W c chroma'
  unfolding chroma_read
  chroma-read-same = walk_same (colour_window c) _ _ (λ i j e ok. ap (λ v. ok && is_sample (pos (most c.d)) v) (agree-chroma i j e)) true

  window-sums-same :
      sums_of c.d (the_colour c.direction) (luma_in W c luma) (chroma_in W c chroma) (colour_window c)
      ≡ sums_of c.d (the_colour c.direction) (luma_in W c luma') (chroma_in W c chroma') (colour_window c)
  window-sums-same =
      sums_same c.d (the_colour c.direction) _ _ _ _ (colour_window c)
      (λ x y e. luma-same _ _ (direction-in c x y e (the_colour c.direction)))
      (λ x y e. luma-same x y (counted-in c x y e))
      chroma-same

  small_same : colour_small W c luma chroma ≡ colour_small W c luma' chroma'
  unfolding colour_small
  small_same = ap is_small window-sums-same

  pub colour-answer-same : colour_answer W c luma chroma ≡ colour_answer W c luma' chroma'
  unfolding colour_answer
  colour-answer-same = λ t. ladder ((luma-read-same t && chroma-read-same t) else BadSample ∷ small_same t else SumTooLarge ∷ [])

  -- ---- the parameters, and the samples that they predict
  params_same : colour_params W c luma chroma ≡ colour_params W c luma' chroma'
  unfolding window_params
  params_same = ap (params_of c.d (count_of (colour_window c))) window-sums-same

  pub colour-at-same : (r k : ℕ) → r < c.height → k < c.width → colour_at W c luma chroma r k ≡ colour_at W c luma' chroma' r k
  unfolding colour_at
  colour-at-same r k hr hk =
      let b = colour_block c in
      let v = value_same (direction_at b k r) (direction-needed-in W H c placed k r hk hr) in
      let u = value_same (centre_at b k r) (centre-needed-in W H c placed k r hk hr) in
      let p = params_same in
      cc
