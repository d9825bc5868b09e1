-- The refusals of a tower's job before 8, in order of checking (document 01, Refusal numbers; document 02, request (v)).
use Rattle.std.specs.Prelude.{Bool, cond, List, [], ◌∷◌, ◌++◌, ℕ}
use Rattle.numbers.specs.Answer.{is_done, Answer}
use Rattle.numbers.specs.Colour.{is_colour}
use Rattle.numbers.specs.Depth.{is_depth}
use Rattle.numbers.specs.declared.answer.Refusal.TheVariants.{BadDepth, BadMode, OutsidePlane, NoDifferences, BadColourDirection, BadReference, BadLines}
use Rattle.refusals.specs.Ladder.{Rule, ◌else◌, ladder}
use Rattle.block_spec.specs.Rules.{size_rules, place_rules}
use Rattle.colour_terms.specs.Reference.{is_sizes}
use Rattle.job.specs.Row.{Row, spec_of}
use Rattle.job.specs.Mode.{is_mode}
use Rattle.job.specs.Rules.{has_differences}
use Rattle.colour_words.specs.declared.ColourWords.{ColourWords}
use Rattle.tower_job.specs.Row.{base_row, is_colour_mode, colour_of_row}
use Rattle.tower_job.specs.Tests.{is_tower, is_in_planes, is_colour_lines}

-- in modes 0 to 4, and in a mode above 5, which `is_mode` refuses: the first library's 1 to 7, with the new conditions of 3
abbrev pub base_rules : ℕ → ℕ → ℕ → Row → List Rule
base_rules W H n row =
    size_rules (spec_of (base_row row)) ++
    is_mode (base_row row) else BadMode ∷
    is_tower row else BadMode ∷
    place_rules W H (spec_of (base_row row)) ++
    has_differences n (base_row row) else NoDifferences ∷ []

-- in mode 5, after 2 and 3: "4 for a window or block outside its plane, 10, 11 (sizes alone), 12"
abbrev pub span_rules : ℕ → ℕ → ColourWords → List Rule
span_rules W H c =
    is_in_planes W H c else OutsidePlane ∷
    is_colour c.direction else BadColourDirection ∷
    is_sizes c.ref_width c.ref_height else BadReference ∷
    is_colour_lines c else BadLines ∷ []

abbrev pub colour_rules : ℕ → ℕ → Row → List Rule
colour_rules W H row = is_depth (colour_of_row row).d else BadDepth ∷ is_tower row else BadMode ∷ span_rules W H (colour_of_row row)

-- by the row and the sizes alone: planes of W by H samples, n differences
abbrev pub tower_rules : ℕ → ℕ → ℕ → Row → List Rule
tower_rules W H n row = cond (is_colour_mode row) (colour_rules W H row) (base_rules W H n row)

unfoldable pub tower_answer : ℕ → ℕ → ℕ → Row → Answer
tower_answer W H n row = ladder (tower_rules W H n row)

-- none of them refuses the row: "Jobs that 8 or 14 refuse still count for clashes; other refused jobs touch nothing."
unfoldable pub tower_stands : ℕ → ℕ → ℕ → Row → Bool
tower_stands W H n row = is_done (tower_answer W H n row)
