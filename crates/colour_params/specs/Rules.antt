-- "colour calls 2, 10, 11, 12, 9, 13, 14" (document 01, Refusal numbers): what `derive_params` tests, in that order.
use Rattle.std.specs.Prelude.{Bool, ◌&&◌, List, [], ◌∷◌, ◌++◌, ℕ, ℤ, length}
use Rattle.numbers.specs.Answer.{Answer}
use Rattle.numbers.specs.Colour.{is_colour, the_colour}
use Rattle.numbers.specs.Depth.{is_depth, most}
use Rattle.numbers.specs.declared.answer.Refusal.TheVariants.{BadDepth, BadColourDirection, BadReference, BadLines, ShortList, BadColourSample, SumTooLarge}
use Rattle.numbers.specs.declared.colour.ColourDirection.{ColourDirection}
use Rattle.refusals.specs.Ladder.{Rule, ◌else◌, ladder}
use Rattle.colour_terms.specs.Reference.{is_sizes, is_held, is_lines}
use Rattle.colour_terms.specs.Terms.{entry}
use Rattle.colour_sums.specs.Sum.{sums_of, is_readable}
use Rattle.colour_sums.specs.declared.window.Window.{Window}
use Rattle.colour_solve.specs.Small.{is_small}

-- 11, of luma's list and chroma's, with so many entries
unfoldable pub are_references : Window → ℕ → ℕ → Bool
are_references w luma chroma =
    is_sizes w.ref_width w.ref_height && (is_held w.ref_height luma && is_held w.ref_height chroma)

-- 10, 11, 12 and 9, of lists with so many entries. `room` says that the list which takes the parameters has three entries, and is true where they are
-- returned
abbrev pub window_rules : ℕ → ℕ → Window → ℕ → Bool → List Rule
window_rules luma chroma w direction room =
    is_colour direction else BadColourDirection ∷
    are_references w luma chroma else BadReference ∷
    is_lines w.above_lines w.left_lines else BadLines ∷
    room else ShortList ∷ []

-- 13 and 14, of luma and chroma as functions of column and row
abbrev pub sample_rules : (ℕ → ℕ → ℤ) → (ℕ → ℕ → ℤ) → Window → ColourDirection → ℕ → List Rule
sample_rules luma chroma w direction D =
    is_readable (most D) direction luma chroma w else BadColourSample ∷
    is_small (sums_of D direction luma chroma w) else SumTooLarge ∷ []

-- all of them, of reference lists
abbrev pub derive_rules : List ℤ → List ℤ → Window → ℕ → ℕ → Bool → List Rule
derive_rules luma chroma w direction D room =
    is_depth D else BadDepth ∷
    (window_rules (length luma) (length chroma) w direction room ++ sample_rules (entry luma) (entry chroma) w (the_colour direction) D)

unfoldable pub derive_answer : List ℤ → List ℤ → Window → ℕ → ℕ → Bool → Answer
derive_answer luma chroma w direction D room = ladder (derive_rules luma chroma w direction D room)
