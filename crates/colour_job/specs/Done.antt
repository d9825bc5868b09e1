-- "Mode 5 derives parameters .. and predicts with them .. It writes width by height samples at x, y without differences" (document 02, request (v)).
use Rattle.std.specs.Prelude.{List, ℕ, ℤ, Float}
use Rattle.numbers.specs.Colour.{the_colour}
use Rattle.lists.specs.Block.{sample}
use Rattle.refusals.specs.Promise.{lent}
use Rattle.paint.specs.Painted.{painted}
use Rattle.elimination.specs.declared.Params.{Params}
use Rattle.colour_params.specs.Derived.{window_params}
use Rattle.colour_block.specs.Predicted.{chroma_at}
use Rattle.colour_words.specs.declared.ColourWords.{ColourWords}
use Rattle.colour_words.specs.Colour.{colour_window, colour_block, colour_rect}
use Rattle.colour_windows.specs.Windows.{luma_in, chroma_in}
use Rattle.colour_job.specs.Answer.{colour_answer}

-- the parameters that the windows give
abbrev pub colour_params : ℕ → ColourWords → List Float → List Float → Params
colour_params W c luma chroma = window_params (luma_in W c luma) (chroma_in W c chroma) (colour_window c) (the_colour c.direction) c.d

-- the sample that they predict at row r and column k of the block
abbrev pub given_at : ℕ → ColourWords → List Float → Params → ℕ → ℕ → ℤ
given_at W c luma p r k = chroma_at (luma_in W c luma) (colour_block c) p.x0 p.x1 p.x2 r k

unfoldable pub colour_at : ℕ → ColourWords → List Float → List Float → ℕ → ℕ → Float
colour_at W c luma chroma r k = sample (given_at W c luma (colour_params W c luma chroma) r k)

-- the chroma plane afterwards; a refused job writes nothing
unfoldable pub colour_done : ℕ → ColourWords → List Float → List Float → List Float
colour_done W c luma chroma = lent (colour_answer W c luma chroma) (painted W (colour_rect c) (colour_at W c luma chroma) chroma) chroma
