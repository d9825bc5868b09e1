-- A direction in a job's words: direction, delta + 3, flags, max-width, max-height (document 01, Ranges and numbers that name things).
use Rattle.std.specs.Prelude.{ℕ, Bool, cond, ◌&&◌, leb, ℤ, pos, nat_abs, Result, Ok, Err}
use Rattle.numbers.specs.Depth.{most}
use Rattle.row_words.specs.Dir.{dir_of, angle_of, delta_of, is_dir, is_delta}
use Rattle.row_words.specs.Flag.{no_stray, flags_of}
use Rattle.row_words.specs.declared.dir.Dir.{Dir}
use Rattle.row_words.specs.declared.flag.Flags.{Flags}
use Rattle.direct_calls.specs.Direct.{Predictor}
use Rattle.setting.specs.declared.Setting.{Setting}
use Rattle.directional.specs.Directional.{directional_at}
use Rattle.numbers.specs.declared.answer.Refusal.{Refusal}

-- refusal 3: "direction above 7, delta word above 6, a stray flag bit"
unfoldable pub is_named : ℕ → ℕ → ℕ → Bool
is_named direction delta flags = is_dir direction && (is_delta delta && no_stray flags)

-- "the angle is the direction's degrees plus 3 times delta"
abbrev pub angle_from : Result Dir Refusal → ℕ → ℕ
angle_from (Ok d) delta = nat_abs (angle_of d (delta_of delta))
angle_from (Err _) delta = 0

-- "Max-width or max-height 0 stands for B."
unfoldable pub limit_of : ℕ → ℕ → ℕ
limit_of B word = cond (leb 1 word) word B

-- what a direction is set to, at B, by its angle, its flags and the words max-width and max-height
abbrev pub setting_of : ℕ → ℕ → Flags → ℕ → ℕ → Setting
setting_of B angle f wide high = record {
  angle = angle;
  flags = f;
  max_width = limit_of B wide;
  max_height = limit_of B high;
}

-- the predictor of a direction with its delta, at depth D
abbrev pub turned_by : ℕ → Dir → ℤ → Flags → ℕ → ℕ → Predictor
turned_by D dir delta f wide high B = directional_at B B (pos (most D)) (setting_of B (nat_abs (angle_of dir delta)) f wide high)

-- the predictor that the words name, at depth D
abbrev pub directed : ℕ → ℕ → ℕ → ℕ → ℕ → ℕ → Predictor
directed D direction delta flags wide high B =
    directional_at B B (pos (most D)) (setting_of B (angle_from (dir_of direction) delta) (flags_of flags) wide high)
