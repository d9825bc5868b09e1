-- A word's place in a tower's row: after the first library's words and inside the row; number and word agree both ways. Assumes nothing.
use mathlib.Core.Path.{◌≡◌, refl}
use Prim.Native.Nat.{ℕ, ◌+◌, ◌≤◌, ◌<◌}
use native.Mathlib.Omega.{arith}
use lib.ListN.{length}
use Rattle.numbers.specs.Limits.{row_words}
use Rattle.std.specs.Prelude.{Some, None}
use Rattle.std.proofs.lemmas.Option.{same_Some, none-some}
use Rattle.numbers.proofs.Look.{look-back}
use Rattle.tower_words.specs.Limits.{tower_words}
use Rattle.tower_words.specs.Word.{tower_place, added_words, tower_word_of}
use Rattle.tower_words.specs.declared.word.TowerWord.{TowerWord}
use Rattle.tower_words.specs.declared.word.TowerWord.TheVariants.{PlaneWord, ColourWord, AboveLines, LeftLines, RefWidth, RefHeight, Width, Height, LumaX, LumaY, HaveTop, HaveLeft, SpareA, SpareB, SpareC, SpareD}

pub tower-count : row_words + length added_words ≡ tower_words
tower-count = refl

pub tower-below : (w : TowerWord) → (row_words ≤ tower_place w) × (tower_place w < tower_words)
tower-below PlaneWord = (omega arith, omega arith)
tower-below ColourWord = (omega arith, omega arith)
tower-below AboveLines = (omega arith, omega arith)
tower-below LeftLines = (omega arith, omega arith)
tower-below RefWidth = (omega arith, omega arith)
tower-below RefHeight = (omega arith, omega arith)
tower-below Width = (omega arith, omega arith)
tower-below Height = (omega arith, omega arith)
tower-below LumaX = (omega arith, omega arith)
tower-below LumaY = (omega arith, omega arith)
tower-below HaveTop = (omega arith, omega arith)
tower-below HaveLeft = (omega arith, omega arith)
tower-below SpareA = (omega arith, omega arith)
tower-below SpareB = (omega arith, omega arith)
tower-below SpareC = (omega arith, omega arith)
tower-below SpareD = (omega arith, omega arith)

pub tower-there : (w : TowerWord) → tower_word_of (tower_place w) ≡ Some w
tower-there PlaneWord = refl
tower-there ColourWord = refl
tower-there AboveLines = refl
tower-there LeftLines = refl
tower-there RefWidth = refl
tower-there RefHeight = refl
tower-there Width = refl
tower-there Height = refl
tower-there LumaX = refl
tower-there LumaY = refl
tower-there HaveTop = refl
tower-there HaveLeft = refl
tower-there SpareA = refl
tower-there SpareB = refl
tower-there SpareC = refl
tower-there SpareD = refl

pub tower-back : (n : ℕ) (w : TowerWord) → tower_word_of n ≡ Some w → tower_place w ≡ n
tower-back n w h = look-back tower_place Some None same_Some none-some added_words n w h
