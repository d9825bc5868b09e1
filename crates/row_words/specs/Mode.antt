-- "Modes: 0 Paeth, 1 smooth, 2 smooth_v, 3 smooth_h, 4 a direction with its delta."
use Rattle.std.specs.Prelude.{◌≡◌, Bool, true, false, cond, List, [], ◌∷◌, ℕ, ◌≤◌, eqb, pos, nat_abs, ◌+ℤ◌, Result, Ok, Err}
use Rattle.numbers.specs.Look.{look}
use Rattle.row_words.specs.Dir.{dir_number, dir_of, is_delta, delta_of}
use Rattle.row_words.specs.declared.mode.Mode.{Mode}
use Rattle.row_words.specs.declared.mode.Mode.TheVariants.{Paeth, Smooth, SmoothV, SmoothH, Directional}
use Rattle.numbers.specs.declared.answer.Refusal.{Refusal}
use Rattle.numbers.specs.declared.answer.Refusal.TheVariants.{BadMode}
use Rattle.row_words.specs.declared.dir.Dir.{Dir}

-- "4 a direction with its delta"
abbrev pub direction_mode : ℕ
direction_mode = 4

-- case to number
abbrev pub mode_number : Mode → ℕ
mode_number Paeth = 0
mode_number Smooth = 1
mode_number SmoothV = 2
mode_number SmoothH = 3
mode_number (Directional d delta) = direction_mode

-- ---- the mode that a row's words name: "Words 5, 6, 13 and 14 are looked at only in mode 4."

-- the four modes that are plain names
abbrev pub plain_modes : List Mode
plain_modes = Paeth ∷ Smooth ∷ SmoothV ∷ SmoothH ∷ []

-- a direction that was looked up, and the word of its delta
abbrev pub directed_mode : Result Dir Refusal → ℕ → Result Mode Refusal
directed_mode (Ok dir) delta = cond (is_delta delta) (Ok (Directional dir (delta_of delta))) (Err BadMode)
directed_mode (Err refusal) delta = Err refusal

-- the words mode, direction and delta
unfoldable pub named_mode : ℕ → ℕ → ℕ → Result Mode Refusal
named_mode mode direction delta =
    look mode_number Ok (cond (eqb mode direction_mode) (directed_mode (dir_of direction) delta) (Err BadMode)) plain_modes mode

-- they name one
abbrev pub is_found : Result Mode Refusal → Bool
is_found (Ok mode) = true
is_found (Err refusal) = false

-- ---- the words that stand for a mode: its number, and in mode 4 its direction's number and its delta + 3. The others count in mode 4 alone.
abbrev pub StandFor : ℕ → ℕ → ℕ → Mode → Type 0
StandFor mode direction delta Paeth = mode ≡ mode_number Paeth
StandFor mode direction delta Smooth = mode ≡ mode_number Smooth
StandFor mode direction delta SmoothV = mode ≡ mode_number SmoothV
StandFor mode direction delta SmoothH = mode ≡ mode_number SmoothH
StandFor mode direction delta (Directional d z) = (mode ≡ direction_mode) × (direction ≡ dir_number d) × (pos delta ≡ z +ℤ pos 3)

-- "delta -3 to 3"
abbrev pub DeltaInRange : Mode → Type 0
DeltaInRange Paeth = Unit
DeltaInRange Smooth = Unit
DeltaInRange SmoothV = Unit
DeltaInRange SmoothH = Unit
DeltaInRange (Directional d z) = nat_abs z ≤ 3
