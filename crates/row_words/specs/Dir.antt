-- "Directions 0 to 7: V 90, H 180, D45, D135, D113, D157, D203, D67; the angle is the direction's degrees plus 3 times delta, delta -3 to 3."
use Rattle.std.specs.Prelude.{Bool, List, [], ◌∷◌, ℕ, leb, ℤ, pos, ◌+ℤ◌, ◌-ℤ◌, ◌*ℤ◌, Result, Ok, Err}
use Rattle.numbers.specs.Look.{look, among}
use Rattle.row_words.specs.declared.dir.Dir.{Dir}
use Rattle.row_words.specs.declared.dir.Dir.TheVariants.{Vertical, Horizontal, D45, D135, D113, D157, D203, D67}
use Rattle.numbers.specs.declared.answer.Refusal.{Refusal}
use Rattle.numbers.specs.declared.answer.Refusal.TheVariants.{BadMode}

-- case to number
abbrev pub dir_number : Dir → ℕ
dir_number Vertical = 0
dir_number Horizontal = 1
dir_number D45 = 2
dir_number D135 = 3
dir_number D113 = 4
dir_number D157 = 5
dir_number D203 = 6
dir_number D67 = 7

abbrev pub dirs : List Dir
dirs = Vertical ∷ Horizontal ∷ D45 ∷ D135 ∷ D113 ∷ D157 ∷ D203 ∷ D67 ∷ []

-- number to case
abbrev pub dir_of : ℕ → Result Dir Refusal
dir_of n = look dir_number Ok (Err BadMode) dirs n

-- n is one of the eight
unfoldable pub is_dir : ℕ → Bool
is_dir n = among dir_number dirs n

-- the direction's degrees
abbrev pub degrees_of : Dir → ℕ
degrees_of Vertical = 90
degrees_of Horizontal = 180
degrees_of D45 = 45
degrees_of D135 = 135
degrees_of D113 = 113
degrees_of D157 = 157
degrees_of D203 = 203
degrees_of D67 = 67

-- "the angle is the direction's degrees plus 3 times delta"
unfoldable pub angle_of : Dir → ℤ → ℤ
angle_of d delta = pos (degrees_of d) +ℤ pos 3 *ℤ delta

-- a row's word "6 delta + 3": the word stands for a delta, and for which
unfoldable pub is_delta : ℕ → Bool
is_delta word = leb word 6

unfoldable pub delta_of : ℕ → ℤ
delta_of word = pos word -ℤ pos 3
