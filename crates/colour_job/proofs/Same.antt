-- What a job derives and predicts hangs on its test and its sums, and on the places that the block needs: the same there is the same. And the
-- answer of a window whose samples are in range. Assumes nothing.
use mathlib.Core.Path.{◌≡◌, sym, ◌∙◌, ap}
use mathlib.Core.Bool.{true, cond}
use mathlib.Core.List.{List, [], ◌∷◌}
use Prim.Native.Nat.{ℕ}
use lib.IntN.{ℤ}
use Rattle.std.specs.Prelude.{Ok, Err}
use Rattle.numbers.specs.Answer.{done}
use Rattle.numbers.specs.Depth.{most}
use Rattle.numbers.specs.declared.answer.Refusal.{Refusal}
use Rattle.numbers.specs.declared.answer.Refusal.TheVariants.{BadColourSample, SumTooLarge}
use Rattle.numbers.specs.declared.colour.ColourDirection.{ColourDirection}
use Rattle.refusals.specs.Ladder.{Rule, ◌else◌, ladder, yields}
use Rattle.refusals.proofs.Yields.{yielded, yield-refused}
use Rattle.elimination.specs.declared.Params.{Params}
use Rattle.colour_sums.specs.Sum.{sums_of, is_readable}
use Rattle.colour_sums.specs.declared.window.Window.{Window}
use Rattle.colour_solve.specs.Small.{is_small}
use Rattle.colour_params.specs.Derived.{window_params, sampled}
use Rattle.colour_row.specs.Sample.{total, third_of, clipped}
use Rattle.colour_rules.specs.Needed.{value_at, centre_at, direction_at}
use Rattle.colour_rules.specs.declared.block.Block.{Block}
use Rattle.colour_block.specs.Predicted.{chroma_at}

-- ---- over any luma and chroma
module _ (w : Window) (direction : ColourDirection) (D : ℕ) where
  pub sampled-same : (luma luma' chroma chroma' : ℕ → ℕ → ℤ) → is_readable (most D) direction luma chroma w
      ≡ is_readable (most D) direction luma' chroma' w
      → sums_of D direction luma chroma w ≡ sums_of D direction luma' chroma' w
      → sampled luma chroma w direction D ≡ sampled luma' chroma' w direction D
  unfolding sampled window_params
  sampled-same luma luma' chroma chroma' r s = simp (r, s)

  -- of a readable window the answer is done or 14, and one that is done has its parameters
  module _ (luma chroma : ℕ → ℕ → ℤ) (e : is_readable (most D) direction luma chroma w ≡ true) where
    abbrev small-rules : List Rule
    small-rules = is_small (sums_of D direction luma chroma w) else SumTooLarge ∷ []

    sampled-is : yields (ladder small-rules) (window_params luma chroma w direction D) ≡ sampled luma chroma w direction D
    unfolding sampled
    sampled-is = ap (λ t. yields (cond t (ladder small-rules) (Err BadColourSample)) (window_params luma chroma w direction D)) (sym e)

    pub readable-err : (r : Refusal) → Err r ≡ sampled luma chroma w direction D → ladder small-rules ≡ Err r
    readable-err r h = yield-refused (ladder small-rules) (window_params luma chroma w direction D) (sampled-is ∙ sym h)

    pub readable-ok : (p : Params) → Ok p ≡ sampled luma chroma w direction D
        → (ladder small-rules ≡ done) × (p ≡ window_params luma chroma w direction D)
    readable-ok p h = yielded (ladder small-rules) (window_params luma chroma w direction D) p (sampled-is ∙ sym h)

pub chroma-same : (b : Block) (luma luma' : ℕ → ℕ → ℤ) (p0 p1 p2 : ℤ) (r k : ℕ)
    → value_at luma (direction_at b k r) ≡ value_at luma' (direction_at b k r) → value_at luma (centre_at b k r) ≡ value_at luma' (centre_at b k r)
    → chroma_at luma b p0 p1 p2 r k ≡ chroma_at luma' b p0 p1 p2 r k
chroma-same b luma luma' p0 p1 p2 r k near own = λ j. clipped b.d (total b.d p0 p1 (third_of b.d p2) (near j) (own j))
