-- The promises of the repository's own calls, with the answer's number in the answer's place.
use Rattle.std.specs.Prelude.{Bool, true, List, ℕ, ℤ, Float, leb, length}
use Rattle.numbers.specs.Answer.{answer_number}
use Rattle.lists.specs.Block.{block}
use Rattle.refusals.specs.Promise.{lent, Promise}
use Rattle.edges.specs.Refs.{Lists, refs_answer_for, refs_of}
use Rattle.block_spec.specs.declared.spec.IntraRefSpec.{IntraRefSpec}
use Rattle.direct_calls.specs.Direct.{Predictor, direct_answer}
use Rattle.colour_sums.specs.declared.window.Window.{Window}
use Rattle.colour_params.specs.Rules.{derive_answer}
use Rattle.colour_params.specs.Derived.{list_params, written}
use Rattle.colour_block.specs.Predicted.{chroma_block}
use Rattle.colour_rules.specs.Rules.{predict_answer}
use Rattle.colour_rules.specs.declared.block.Block.{Block}

-- a predictor's call; named says that its mode's words name a mode
abbrev pub PredictedByC : Bool → Predictor → ℕ → ℕ → List ℤ → List ℤ → ℤ → List Float → List Float → ℕ → Type 0
PredictedByC named at B D above left k before after r =
    Promise (answer_number (direct_answer B D named above left k (length before)))
    (lent (direct_answer B D named above left k (length before)) (block B B (at B above left k) before) before)
    r after

-- a predictor's call that takes no mode
abbrev pub PredictedC : Predictor → ℕ → ℕ → List ℤ → List ℤ → ℤ → List Float → List Float → ℕ → Type 0
PredictedC = PredictedByC true

-- `build_refs`, whose block and neighbours are given one by one
abbrev pub spec : ℕ → ℕ → ℕ → ℕ → Bool → Bool → ℕ → ℕ → ℕ → ℕ → ℕ → IntraRefSpec
spec x y b d have_above have_left top_right bottom_left available_above available_left base = record {
  x = x;
  y = y;
  b = b;
  d = d;
  have_above = have_above;
  have_left = have_left;
  top_right = top_right;
  bottom_left = bottom_left;
  available_above = available_above;
  available_left = available_left;
  base = base;
}

abbrev pub lists : List ℤ → List ℤ → List ℤ → Lists
lists above left corner = record { above = above; left = left; corner = corner }

abbrev pub BuiltC : List Float → ℕ → ℕ → IntraRefSpec → Lists → Lists → ℕ → Type 0
BuiltC plane W H s before after r =
    Promise (answer_number (refs_answer_for plane W H s before)) (lent (refs_answer_for plane W H s before) (refs_of plane W s before) before) r after

-- a window, by its four sizes
abbrev pub window : ℕ → ℕ → ℕ → ℕ → Window
window ref_width ref_height above_lines left_lines = record {
  ref_width = ref_width;
  ref_height = ref_height;
  above_lines = above_lines;
  left_lines = left_lines;
}

-- `derive_params`
abbrev pub DerivedC : List ℤ → List ℤ → Window → ℕ → ℕ → List ℤ → List ℤ → ℕ → Type 0
DerivedC luma chroma w direction D before after r =
    Promise (answer_number (derive_answer luma chroma w direction D (leb 3 (length before))))
    (lent (derive_answer luma chroma w direction D (leb 3 (length before))) (written (list_params luma chroma w direction D) before) before)
    r after

-- `predict_block`
abbrev pub PredictedBlockC : List ℤ → Block → ℤ → ℤ → ℤ → List ℤ → List ℤ → ℕ → Type 0
PredictedBlockC luma b p0 p1 p2 before after r =
    Promise (answer_number (predict_answer luma b (length before)))
    (lent (predict_answer luma b (length before)) (chroma_block luma b p0 p1 p2 before) before)
    r after
