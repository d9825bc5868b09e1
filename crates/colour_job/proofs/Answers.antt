-- A job's answer test by test, and where it is done its parameters and what it writes. Assumes nothing.
use mathlib.Core.Path.{◌≡◌, sym, ◌∙◌, ap}
use mathlib.Core.Bool.{Bool, true, false, cond, ◌&&◌}
use mathlib.Core.List.{List, [], ◌∷◌}
use Prim.Native.Nat.{ℕ}
use lib.IntN.{ℤ}
use lib.Ieee.{Float}
use lib.ListN.{length}
use Rattle.std.specs.Prelude.{Ok, Err}
use Rattle.numbers.specs.Answer.{done}
use Rattle.numbers.specs.Colour.{the_colour}
use Rattle.numbers.specs.Depth.{most}
use Rattle.numbers.specs.declared.answer.Refusal.{Refusal}
use Rattle.numbers.specs.declared.answer.Refusal.TheVariants.{BadSample, SumTooLarge}
use Rattle.signed.proofs.Range.{and_both}
use Rattle.lists.specs.Block.{sample}
use Rattle.refusals.specs.Ladder.{◌else◌, ladder}
use Rattle.paint.specs.Painted.{painted}
use Rattle.paint.proofs.Painted.{painted_same}
use Rattle.elimination.specs.declared.Params.{Params}
use Rattle.colour_terms.specs.Terms.{entry}
use Rattle.colour_sums.specs.Sum.{is_readable}
use Rattle.colour_block.specs.Predicted.{chroma_at}
use Rattle.colour_words.specs.declared.ColourWords.{ColourWords}
use Rattle.colour_words.specs.Colour.{colour_window, colour_block, colour_rect}
use Rattle.colour_words.specs.Placed.{ColourLaid}
use Rattle.colour_windows.specs.Windows.{luma_in, chroma_in, luma_read, chroma_read}
use Rattle.colour_job.specs.Answer.{colour_small, colour_answer}
use Rattle.colour_job.specs.Done.{colour_params, given_at, colour_at}
use Rattle.colour_windows.specs.Held.{LumaHeld}
use Rattle.colour_job.specs.Passed.{Passed, Given}
use Rattle.colour_job.proofs.NoThirteen.{no-thirteen}
use Rattle.colour_job.proofs.Held.{held-chroma}
use Rattle.colour_job.proofs.Same.{readable-err, readable-ok}

module _ (W : ℕ) (c : ColourWords) (luma chroma : List Float) where
  -- 8
  module _ (r : Bool) (is : r ≡ (luma_read W c luma && chroma_read W c chroma)) where
    pub answer-eight : r ≡ false → Err BadSample ≡ colour_answer W c luma chroma
    unfolding colour_answer
    answer-eight e = sym (ap (λ t. cond t (cond (colour_small W c luma chroma) done (Err SumTooLarge)) (Err BadSample)) (sym is ∙ e))

    pub passed-eight : r ≡ true → ColourLaid (length luma) W c → length chroma ≡ length luma → Passed W c luma chroma
    passed-eight e l n =
        let p = and_both (luma_read W c luma) (chroma_read W c chroma) (sym is ∙ e) in
        record { laid = l; same = n; luma-in = p.0; chroma-in = p.1 }

  -- 14, or done: what derivation gave
  module _ (p : Passed W c luma chroma) where
    readable : is_readable (most c.d) (the_colour c.direction) (luma_in W c luma) (chroma_in W c chroma) (colour_window c) ≡ true
    readable = (no-thirteen W p.laid.H c p.laid.placed luma p.luma-in chroma p.chroma-in).0

    fourteen : ladder (colour_small W c luma chroma else SumTooLarge ∷ []) ≡ colour_answer W c luma chroma
    unfolding colour_answer
    fourteen = sym (λ j. cond (p.luma-in j && p.chroma-in j) (cond (colour_small W c luma chroma) done (Err SumTooLarge)) (Err BadSample))

    pub answer-fourteen : {xs ys : List ℤ} (r : Refusal) → Given W c luma chroma xs ys (Err r) → Err r ≡ colour_answer W c luma chroma
    unfolding colour_small
    answer-fourteen r g =
        sym (readable-err (colour_window c) (the_colour c.direction) c.d (luma_in W c luma) (chroma_in W c chroma) readable r g.is) ∙ fourteen

    -- and its parameters
    pub answer-done : {xs ys : List ℤ} (q : Params) → Given W c luma chroma xs ys (Ok q) → (done ≡ colour_answer W c luma chroma) × (q ≡ colour_params W c luma chroma)
    unfolding colour_small
    answer-done q g =
        let h = readable-ok (colour_window c) (the_colour c.direction) c.d (luma_in W c luma) (chroma_in W c chroma) readable q g.is in
        (sym h.0 ∙ fourteen, h.1)

  -- and what they write, by luma's list
  pub painted-is : {size : ℕ} → ColourLaid size W c → (xs : List ℤ) → LumaHeld c (luma_in W c luma) xs → (p : Params) → p ≡ colour_params W c luma chroma
      → (after : List Float) → after ≡ painted W (colour_rect c) (λ r k. sample (chroma_at (entry xs) (colour_block c) p.x0 p.x1 p.x2 r k)) chroma
      → after ≡ painted W (colour_rect c) (colour_at W c luma chroma) chroma
  unfolding colour_at
  painted-is l xs g p e after h =
      h ∙ painted_same W (colour_rect c) _ _ chroma (λ r k a b.
      ap sample (held-chroma l luma chroma xs g p.x0 p.x1 p.x2 r k a b ∙ ap (λ (q : Params). given_at W c luma q r k) e))
