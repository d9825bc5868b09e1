-- "plane number, colour direction, above_lines, left_lines, ref_width, ref_height, width, height, luma x and y, have_top and have_left, four zero"
-- (document 02, request (v)), after the sixteen words of the first library's row.
use Rattle.std.specs.Prelude.{List, [], ◌∷◌, ℕ, Option, Some, None}
use Rattle.numbers.specs.Look.{look}
use Rattle.tower_words.specs.declared.word.TowerWord.{TowerWord}
use Rattle.tower_words.specs.declared.word.TowerWord.TheVariants.{PlaneWord, ColourWord, AboveLines, LeftLines, RefWidth, RefHeight, Width, Height, LumaX, LumaY, HaveTop, HaveLeft, SpareA, SpareB, SpareC, SpareD}

-- case to number
abbrev pub tower_place : TowerWord → ℕ
tower_place PlaneWord = 16
tower_place ColourWord = 17
tower_place AboveLines = 18
tower_place LeftLines = 19
tower_place RefWidth = 20
tower_place RefHeight = 21
tower_place Width = 22
tower_place Height = 23
tower_place LumaX = 24
tower_place LumaY = 25
tower_place HaveTop = 26
tower_place HaveLeft = 27
tower_place SpareA = 28
tower_place SpareB = 29
tower_place SpareC = 30
tower_place SpareD = 31

abbrev pub added_words : List TowerWord
added_words =
    PlaneWord ∷ ColourWord ∷ AboveLines ∷ LeftLines ∷ RefWidth ∷ RefHeight ∷ Width ∷ Height ∷
    LumaX ∷ LumaY ∷ HaveTop ∷ HaveLeft ∷ SpareA ∷ SpareB ∷ SpareC ∷ SpareD ∷ []

-- number to case
abbrev pub tower_word_of : ℕ → Option TowerWord
tower_word_of n = look tower_place Some None added_words n
