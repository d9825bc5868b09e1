-- "Bit depth D is 8, 10 or 12; M = 2^D - 1."
use Rattle.std.specs.Prelude.{Result, Ok, Err, Bool, List, [], ◌∷◌, ℕ, ◌-◌, ◌^◌}
use Rattle.numbers.specs.Look.{look, among}
use Rattle.numbers.specs.declared.depth.Depth.{Depth}
use Rattle.numbers.specs.declared.depth.Depth.TheVariants.{Eight, Ten, Twelve}
use Rattle.numbers.specs.declared.answer.Refusal.{Refusal}
use Rattle.numbers.specs.declared.answer.Refusal.TheVariants.{BadDepth}

-- case to number
abbrev pub bits_of : Depth → ℕ
bits_of Eight = 8
bits_of Ten = 10
bits_of Twelve = 12

abbrev pub depths : List Depth
depths = Eight ∷ Ten ∷ Twelve ∷ []

-- number to case
abbrev pub depth_of : ℕ → Result Depth Refusal
depth_of d = look bits_of Ok (Err BadDepth) depths d

-- D is one of the three
unfoldable pub is_depth : ℕ → Bool
is_depth D = among bits_of depths D

-- M, of any D
abbrev pub most : ℕ → ℕ
most D = 2 ^ D - 1
