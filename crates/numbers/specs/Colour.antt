-- Colour directions 0, 1 and 2 (document 01, Colour parameters; refusal 10): the centre, the one above it, the one left of it.
use Rattle.std.specs.Prelude.{Result, Ok, Err, Bool, List, [], ◌∷◌, ℕ}
use Rattle.numbers.specs.Look.{look, among}
use Rattle.numbers.specs.declared.colour.ColourDirection.{ColourDirection}
use Rattle.numbers.specs.declared.colour.ColourDirection.TheVariants.{Centre, Above, Left}
use Rattle.numbers.specs.declared.answer.Refusal.{Refusal}
use Rattle.numbers.specs.declared.answer.Refusal.TheVariants.{BadColourDirection}

-- case to number
abbrev pub colour_number : ColourDirection → ℕ
colour_number Centre = 0
colour_number Above = 1
colour_number Left = 2

abbrev pub colours : List ColourDirection
colours = Centre ∷ Above ∷ Left ∷ []

-- number to case
abbrev pub colour_of : ℕ → Result ColourDirection Refusal
colour_of n = look colour_number Ok (Err BadColourDirection) colours n

-- the case of n; of a number that names none, which 10 refuses, the centre
abbrev pub or_centre : Result ColourDirection Refusal → ColourDirection
or_centre (Ok d) = d
or_centre (Err _) = Centre

abbrev pub the_colour : ℕ → ColourDirection
the_colour n = or_centre (colour_of n)

-- n is one of the three
unfoldable pub is_colour : ℕ → Bool
is_colour n = among colour_number colours n

-- where "the direction's luma" stands: so many rows above the centre, and so many columns left of it
abbrev pub rows_up : ColourDirection → ℕ
rows_up Centre = 0
rows_up Above = 1
rows_up Left = 0

abbrev pub columns_left : ColourDirection → ℕ
columns_left Centre = 0
columns_left Above = 0
columns_left Left = 1
