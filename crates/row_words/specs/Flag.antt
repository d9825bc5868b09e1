-- "Flag bits: 0 above is there, 1 left is there, 2 luma, 3 edge filter, 4 smooth neighbour; others zero."
use Rattle.std.specs.Prelude.{Bool, List, [], ◌∷◌, ℕ, ◌/◌, ◌%◌, ◌^◌, eqb, ltb, length, Option, Some, None}
use Rattle.numbers.specs.Look.{look}
use Rattle.row_words.specs.declared.flag.Flag.{Flag}
use Rattle.row_words.specs.declared.flag.Flag.TheVariants.{Above, Left, Luma, EdgeFilter, SmoothNeighbour}
use Rattle.row_words.specs.declared.flag.Flags.{Flags}

-- case to number
abbrev pub flag_bit : Flag → ℕ
flag_bit Above = 0
flag_bit Left = 1
flag_bit Luma = 2
flag_bit EdgeFilter = 3
flag_bit SmoothNeighbour = 4

abbrev pub flags : List Flag
flags = Above ∷ Left ∷ Luma ∷ EdgeFilter ∷ SmoothNeighbour ∷ []

-- number to case
abbrev pub flag_of : ℕ → Option Flag
flag_of n = look flag_bit Some None flags n

-- the flag's bit of the word is 1
unfoldable pub is_set : Flag → ℕ → Bool
is_set f word = eqb (word / 2 ^ flag_bit f % 2) 1

-- "others zero": no bit past those of the flags
unfoldable pub no_stray : ℕ → Bool
no_stray word = ltb word (2 ^ length flags)

-- the five flags of a word
abbrev pub flags_of : ℕ → Flags
flags_of word = record {
  above = is_set Above word;
  left = is_set Left word;
  luma = is_set Luma word;
  edge_filter = is_set EdgeFilter word;
  smooth_neighbour = is_set SmoothNeighbour word;
}
