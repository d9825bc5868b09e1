-- The block that the parameters give of its luma (document 01, Colour parameters), and what the call promises.
use Rattle.std.specs.Prelude.{ℕ, ◌*◌, Bool, List, ℤ, length}
use Rattle.numbers.specs.Answer.{Answer}
use Rattle.lists.specs.Fill.{filled}
use Rattle.lists.specs.Block.{rows}
use Rattle.refusals.specs.Promise.{lent, Promise}
use Rattle.colour_terms.specs.Terms.{entry}
use Rattle.colour_sums.specs.declared.window.Window.{Window}
use Rattle.colour_row.specs.Sample.{total, third_of, clipped}
use Rattle.colour_rules.specs.Needed.{value_at, centre_at, direction_at}
use Rattle.colour_rules.specs.Rules.{predict_answer}
use Rattle.colour_rules.specs.declared.block.Block.{Block}

-- the sample at row r and column c, where `at` tells luma by column and row
abbrev pub chroma_at : (ℕ → ℕ → ℤ) → Block → ℤ → ℤ → ℤ → ℕ → ℕ → ℤ
chroma_at at b p0 p1 p2 r c =
    clipped b.d (total b.d p0 p1 (third_of b.d p2) (value_at at (direction_at b c r)) (value_at at (centre_at b c r)))

-- the block, row by row; what follows it is as it was
unfoldable pub chroma_block : List ℤ → Block → ℤ → ℤ → ℤ → List ℤ → List ℤ
chroma_block luma b p0 p1 p2 out = filled (b.height * b.width) (rows b.width (chroma_at (entry luma) b p0 p1 p2)) out

-- a block by the numbers of its call
abbrev pub block_from : Window → ℕ → ℕ → Bool → Bool → ℕ → ℕ → Block
block_from w width height have_top have_left direction D = record {
  ref_width = w.ref_width;
  ref_height = w.ref_height;
  above_lines = w.above_lines;
  left_lines = w.left_lines;
  width = width;
  height = height;
  have_top = have_top;
  have_left = have_left;
  direction = direction;
  d = D;
}

-- what a call promises of its answer r, and of the output before and after
abbrev pub PredictedBlock : List ℤ → Block → ℤ → ℤ → ℤ → List ℤ → List ℤ → Answer → Type 0
PredictedBlock luma b p0 p1 p2 before after r =
    Promise (predict_answer luma b (length before))
    (lent (predict_answer luma b (length before)) (chroma_block luma b p0 p1 p2 before) before)
    r after
