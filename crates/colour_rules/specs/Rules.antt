-- "colour calls 2, 10, 11, 12, 9, 13, 14" (document 01, Refusal numbers), of prediction, which has no sums for 14.
use Rattle.std.specs.Prelude.{ℕ, ◌+◌, ◌*◌, Bool, true, not, ◌&&◌, ◌||◌, List, [], ◌∷◌, leb, ℤ, pos, length}
use Rattle.numbers.specs.Answer.{Answer}
use Rattle.numbers.specs.Colour.{is_colour}
use Rattle.numbers.specs.Depth.{is_depth, most}
use Rattle.numbers.specs.declared.answer.Refusal.TheVariants.{BadDepth, BadColourDirection, BadReference, BadLines, ShortList, BadColourSample}
use Rattle.signed.specs.Range.{inside}
use Rattle.refusals.specs.Ladder.{Rule, ◌else◌, ladder}
use Rattle.edge_line.specs.Every.{every}
use Rattle.colour_terms.specs.Reference.{is_reference, is_lines}
use Rattle.colour_terms.specs.Terms.{stride, entry}
use Rattle.colour_rules.specs.Needed.{Place, value_at, needed}
use Rattle.colour_rules.specs.declared.block.Block.{Block}

-- "width or height not in 1..128"
abbrev pub largest_side : ℕ
largest_side = 128

unfoldable pub is_side : ℕ → Bool
is_side n = leb 1 n && leb n largest_side

-- "width or height not in 1..128, left_lines + width > 256, above_lines + height > ref_height"
unfoldable pub is_placed : Block → Bool
is_placed b =
    is_side b.width && is_side b.height && leb (b.left_lines + b.width) stride && leb (b.above_lines + b.height) b.ref_height

-- a neighbour that is there has a line before the block
unfoldable pub has_line : Bool → ℕ → Bool
has_line there lines = not there || leb 1 lines

-- "have_top with above_lines 0, have_left with left_lines 0"
unfoldable pub has_lines : Block → Bool
has_lines b = has_line b.have_top b.above_lines && has_line b.have_left b.left_lines

-- the value of each place is in 0..8M+7
abbrev pub all_in_range : ℕ → (ℕ → ℕ → ℤ) → List Place → Bool
all_in_range M at [] = true
all_in_range M at (p ∷ ps) = inside (pos (8 * M + 7)) (value_at at p) && all_in_range M at ps

-- "a luma value that the direction's rule needs at a .. predicted place is not in 0..8M+7"
unfoldable pub is_luma_in_range : (ℕ → ℕ → ℤ) → Block → Bool
is_luma_in_range at b = every (λ j. every (λ i. all_in_range (most b.d) at (needed b i j)) b.width) b.height

-- the rules of a call whose output has n entries
abbrev pub predict_rules : List ℤ → Block → ℕ → List Rule
predict_rules luma b n =
    is_depth b.d else BadDepth ∷
    is_colour b.direction else BadColourDirection ∷
    is_reference b.ref_width b.ref_height (length luma) else BadReference ∷
    is_lines b.above_lines b.left_lines else BadLines ∷
    is_placed b else BadLines ∷
    has_lines b else BadLines ∷
    leb (b.width * b.height) n else ShortList ∷
    is_luma_in_range (entry luma) b else BadColourSample ∷ []

unfoldable pub predict_answer : List ℤ → Block → ℕ → Answer
predict_answer luma b n = ladder (predict_rules luma b n)
