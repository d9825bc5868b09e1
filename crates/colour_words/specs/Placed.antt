-- What the refusals before 8 leave to count on in mode 5 (document 02, request (v)): both windows and the block lie in the planes.
use Rattle.std.specs.Prelude.{◌≡◌, true, ℕ, ◌+◌, ◌-◌, ◌*◌, ◌≤◌}
use Rattle.numbers.specs.Colour.{is_colour}
use Rattle.numbers.specs.Depth.{is_depth}
use Rattle.colour_words.specs.declared.ColourWords.{ColourWords}

-- 2, 4, 10, 11 and 12, in planes of W by H samples
pub record ColourPlaced (W H : ℕ) (c : ColourWords) : Type 0 where
  pub is-depth : is_depth c.d ≡ true
  pub is-colour : is_colour c.direction ≡ true
  pub luma-across : c.luma_x + c.ref_width ≤ W
  pub luma-down : c.luma_y + c.ref_height ≤ H
  pub left_in : c.left_lines ≤ c.x
  pub above_in : c.above_lines ≤ c.y
  pub chroma-across : c.x - c.left_lines + c.ref_width ≤ W
  pub chroma-down : c.y - c.above_lines + c.ref_height ≤ H
  pub across : c.x + c.width ≤ W
  pub down : c.y + c.height ≤ H
  pub window-wide : c.ref_width ≤ 256
  pub window-high : c.ref_height ≤ 256
  pub few-above : c.above_lines ≤ 256
  pub few-left : c.left_lines ≤ 256
  pub wide : (1 ≤ c.width) × (c.width ≤ 128)
  pub high : (1 ≤ c.height) × (c.height ≤ 128)
  pub block-across : c.left_lines + c.width ≤ c.ref_width
  pub block-down : c.above_lines + c.height ≤ c.ref_height
  pub top : c.have_top ≡ true → 1 ≤ c.above_lines
  pub side : c.have_left ≡ true → 1 ≤ c.left_lines

-- and 20: the planes have `size` samples each
pub record ColourLaid (size W : ℕ) (c : ColourWords) : Type 0 where
  pub H : ℕ
  pub sides : (W ≤ 4096) × (H ≤ 4096)
  pub whole : size ≡ W * H
  pub placed : ColourPlaced W H c
