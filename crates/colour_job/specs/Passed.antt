-- What the code goes by between its steps: what a job has that passed 8, and what its derivation leaves (document 02, request (v)).
use Rattle.std.specs.Prelude.{◌≡◌, true, List, ℕ, ℤ, Float, length, Result}
use Rattle.numbers.specs.Colour.{the_colour}
use Rattle.numbers.specs.declared.answer.Refusal.{Refusal}
use Rattle.elimination.specs.declared.Params.{Params}
use Rattle.colour_params.specs.Derived.{sampled}
use Rattle.colour_words.specs.declared.ColourWords.{ColourWords}
use Rattle.colour_words.specs.Colour.{colour_window}
use Rattle.colour_words.specs.Placed.{ColourLaid}
use Rattle.colour_windows.specs.Held.{LumaHeld}
use Rattle.colour_windows.specs.Windows.{luma_in, chroma_in, luma_read, chroma_read}

-- the planes of a job whose samples passed 8
pub record Passed (W : ℕ) (c : ColourWords) (luma chroma : List Float) : Type 0 where
  pub laid : ColourLaid (length luma) W c
  pub same : length chroma ≡ length luma
  pub luma-in : luma_read W c luma ≡ true
  pub chroma-in : chroma_read W c chroma ≡ true

-- what derivation leaves: its result, and luma's list
pub record Given (W : ℕ) (c : ColourWords) (luma chroma : List Float) (before after : List ℤ) (r : Result Params Refusal) : Type 0 where
  pub is : r ≡ sampled (luma_in W c luma) (chroma_in W c chroma) (colour_window c) (the_colour c.direction) c.d
  pub long : length after ≡ length before
  pub held : LumaHeld c (luma_in W c luma) after
