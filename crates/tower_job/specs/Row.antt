-- "The job row gains sixteen words" (document 02, request (v)). A row's first sixteen words are a row of the first library.
use Rattle.std.specs.Prelude.{Bool, List, ℕ, ◌*◌, eqb, get_or, take, drop}
use Rattle.numbers.specs.Limits.{row_words}
use Rattle.row_words.specs.declared.word.Word.TheVariants.{X, Y, Bits, ModeWord}
use Rattle.job.specs.Row.{Row, word}
use Rattle.tower_words.specs.Limits.{tower_words, colour_mode}
use Rattle.tower_words.specs.Word.{tower_place}
use Rattle.tower_words.specs.declared.word.TowerWord.{TowerWord}
use Rattle.tower_words.specs.declared.word.TowerWord.TheVariants.{PlaneWord, ColourWord, AboveLines, LeftLines, RefWidth, RefHeight, Width, Height, LumaX, LumaY, HaveTop, HaveLeft}
use Rattle.colour_words.specs.declared.ColourWords.{ColourWords}

-- row i of a plan
abbrev pub tower_row : List ℕ → ℕ → Row
tower_row plan i = take tower_words (drop (tower_words * i) plan)

-- words 0 to 15
abbrev pub base_row : Row → Row
base_row row = take row_words row

-- words 16 to 31
abbrev pub tower_word : Row → TowerWord → ℕ
tower_word row w = get_or row (tower_place w) 0

abbrev pub plane_of : Row → ℕ
plane_of row = tower_word row PlaneWord

-- "Mode 5"
unfoldable pub is_colour_mode : Row → Bool
is_colour_mode row = eqb (word (base_row row) ModeWord) colour_mode

-- what mode 5 looks at: "of words 0 to 15 .. only at x, y, D and mode"
abbrev pub colour_of_row : Row → ColourWords
colour_of_row row = record {
  x = word (base_row row) X;
  y = word (base_row row) Y;
  d = word (base_row row) Bits;
  direction = tower_word row ColourWord;
  above_lines = tower_word row AboveLines;
  left_lines = tower_word row LeftLines;
  ref_width = tower_word row RefWidth;
  ref_height = tower_word row RefHeight;
  width = tower_word row Width;
  height = tower_word row Height;
  luma_x = tower_word row LumaX;
  luma_y = tower_word row LumaY;
  have_top = eqb (tower_word row HaveTop) 1;
  have_left = eqb (tower_word row HaveLeft) 1;
}
