-- A job's lists: where the samples passed 8, what was read is in range for prediction, and it gives what the planes give. Assumes nothing.
use mathlib.Core.Path.{◌≡◌, ◌∙◌}
use mathlib.Core.Bool.{Bool, true, ◌&&◌}
use mathlib.Core.List.{List}
use Prim.Native.Nat.{ℕ, ◌+◌, ◌*◌, ◌<◌}
use lib.IntN.{ℤ, pos}
use lib.Ieee.{Float}
use Rattle.std.specs.Prelude.{Result}
use Rattle.numbers.specs.Colour.{the_colour}
use Rattle.numbers.specs.Depth.{most}
use Rattle.numbers.specs.declared.colour.ColourDirection.{ColourDirection}
use Rattle.numbers.specs.declared.answer.Refusal.{Refusal}
use Rattle.signed.specs.Range.{inside}
use Rattle.edge_line.proofs.Every.{every-same}
use Rattle.colour_terms.specs.Terms.{entry}
use Rattle.colour_sums.specs.declared.window.Window.{Window}
use Rattle.colour_sums.proofs.Same.{sums_same, readable-same}
use Rattle.elimination.specs.declared.Params.{Params}
use Rattle.colour_params.specs.Derived.{sampled}
use Rattle.colour_rules.specs.Rules.{is_luma_in_range}
use Rattle.colour_block.specs.Predicted.{chroma_at}
use Rattle.colour_words.specs.declared.ColourWords.{ColourWords}
use Rattle.colour_words.specs.Colour.{colour_window, colour_block}
use Rattle.colour_words.specs.Placed.{ColourLaid}
use Rattle.colour_windows.specs.Windows.{luma_in, chroma_in, luma_read, chroma_read}
use Rattle.colour_windows.specs.Held.{ChromaHeld, LumaHeld}
use Rattle.colour_job.proofs.NoThirteen.{no-thirteen}
use Rattle.colour_job.proofs.Same.{sampled-same, chroma-same}

module _ {size W : ℕ} {c : ColourWords} (l : ColourLaid size W c) (luma chroma : List Float) where
  abbrev direction : ColourDirection
  direction = the_colour c.direction

  module _ (xs : List ℤ) (g : LumaHeld c (luma_in W c luma) xs) where
    -- ---- 13 of prediction cannot arise with luma's list, as it cannot with the plane
    pub held-in-range : luma_read W c luma ≡ true → chroma_read W c chroma ≡ true → is_luma_in_range (entry xs) (colour_block c) ≡ true
    unfolding is_luma_in_range
    held-in-range e d =
        every-same _ _ c.height (λ j b. every-same _ _ c.width (λ i a t. test (g.own i j a b t) && (test (g.near i j a b t) && true)))
        ∙ (no-thirteen W l.H c l.placed luma e chroma d).1
      where
        test : ℤ → Bool
        test v = inside (pos (8 * most c.d + 7)) v

    -- ---- what was read gives what the planes give
    pub held-sampled : (ys : List ℤ) → ChromaHeld c (chroma_in W c chroma) ys
        → sampled (entry xs) (entry ys) (colour_window c) direction c.d
        ≡ sampled (luma_in W c luma) (chroma_in W c chroma) (colour_window c) direction c.d
    held-sampled ys h =
        sampled-same (colour_window c) direction c.d (entry xs) (luma_in W c luma) (entry ys) (chroma_in W c chroma)
        (readable-same (most c.d) direction (entry xs) (luma_in W c luma) (entry ys) (chroma_in W c chroma) (colour_window c) g.way g.centre h)
        (sums_same c.d direction (entry xs) (luma_in W c luma) (entry ys) (chroma_in W c chroma) (colour_window c) g.way g.centre h)

    pub held-chroma : (p0 p1 p2 : ℤ) (r k : ℕ) → r < c.height → k < c.width
        → chroma_at (entry xs) (colour_block c) p0 p1 p2 r k ≡ chroma_at (luma_in W c luma) (colour_block c) p0 p1 p2 r k
    held-chroma p0 p1 p2 r k a b = chroma-same (colour_block c) (entry xs) (luma_in W c luma) p0 p1 p2 r k (g.near k r b a) (g.own k r b a)

    -- the same, by any name of what derivation is called with
    pub held-derived : (ys : List ℤ) → ChromaHeld c (chroma_in W c chroma) ys → (w : Window) (d : ColourDirection) (n : ℕ) (r : Result Params Refusal)
        → w ≡ colour_window c → d ≡ direction → n ≡ c.d → r ≡ sampled (entry xs) (entry ys) w d n
        → r ≡ sampled (luma_in W c luma) (chroma_in W c chroma) (colour_window c) direction c.d
    held-derived ys h w d n r ew ed en e = e ∙ (λ j. sampled (entry xs) (entry ys) (ew j) (ed j) (en j)) ∙ held-sampled ys h
