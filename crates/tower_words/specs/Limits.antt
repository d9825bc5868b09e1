-- "Colour jobs in the plan" (document 02, request (v)): the row's length, the colour mode's number, the planes' numbers.
use Rattle.std.specs.Prelude.{ℕ}

-- "The job row gains sixteen words" `TowerWord::COUNT`
abbrev pub tower_words : ℕ
tower_words = 32

-- "Mode 5" `ColourMode::NUMBER`
abbrev pub colour_mode : ℕ
colour_mode = 5

-- "one luma and two chroma planes": 0 is luma's, 2 the last one's. `PlaneNumber::LUMA`, `PlaneNumber::LAST`
abbrev pub luma_plane : ℕ
luma_plane = 0

abbrev pub last_plane : ℕ
last_plane = 2
