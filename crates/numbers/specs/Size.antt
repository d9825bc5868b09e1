-- "Block size B is 4, 8, 16, 32 or 64."
use Rattle.std.specs.Prelude.{Result, Ok, Err, Bool, List, [], ◌∷◌, ℕ}
use Rattle.numbers.specs.Look.{look, among}
use Rattle.numbers.specs.declared.size.Size.{Size}
use Rattle.numbers.specs.declared.size.Size.TheVariants.{B4, B8, B16, B32, B64}
use Rattle.numbers.specs.declared.answer.Refusal.{Refusal}
use Rattle.numbers.specs.declared.answer.Refusal.TheVariants.{BadSize}

-- case to number
abbrev pub side_of : Size → ℕ
side_of B4 = 4
side_of B8 = 8
side_of B16 = 16
side_of B32 = 32
side_of B64 = 64

abbrev pub sizes : List Size
sizes = B4 ∷ B8 ∷ B16 ∷ B32 ∷ B64 ∷ []

-- number to case
abbrev pub size_of : ℕ → Result Size Refusal
size_of b = look side_of Ok (Err BadSize) sizes b

-- B is one of the five
unfoldable pub is_size : ℕ → Bool
is_size B = among side_of sizes B
