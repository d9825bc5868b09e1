-- The windows and the block of a colour job (document 02, request (v)): "two windows of ref_width by ref_height .. luma from plane 0 at luma x, y ..
-- chroma from the job's plane at x - left_lines, y - above_lines. It writes width by height samples at x, y".
use Rattle.std.specs.Prelude.{ℕ, ◌+◌, ◌-◌, ◌*◌}
use Rattle.reorder.specs.Rect.{Rect}
use Rattle.colour_sums.specs.declared.window.Window.{Window}
use Rattle.colour_rules.specs.declared.block.Block.{Block}
use Rattle.colour_block.specs.Predicted.{block_from}
use Rattle.colour_words.specs.declared.ColourWords.{ColourWords}

-- the sizes of both windows, as derivation and prediction take them
abbrev pub colour_window : ColourWords → Window
colour_window c = record {
  ref_width = c.ref_width;
  ref_height = c.ref_height;
  above_lines = c.above_lines;
  left_lines = c.left_lines;
}

abbrev pub colour_block : ColourWords → Block
colour_block c = block_from (colour_window c) c.width c.height c.have_top c.have_left c.direction c.d

-- which sample of a plane of rows of W samples stands at column i and row j of the luma window, and of the chroma window
abbrev pub luma_place : ℕ → ColourWords → ℕ → ℕ → ℕ
luma_place W c i j = (c.luma_y + j) * W + (c.luma_x + i)

abbrev pub chroma_place : ℕ → ColourWords → ℕ → ℕ → ℕ
chroma_place W c i j = (c.y - c.above_lines + j) * W + (c.x - c.left_lines + i)

-- the luma window, and the block that is written
abbrev pub luma_rect : ColourWords → Rect
luma_rect c = record { x = c.luma_x; y = c.luma_y; w = c.ref_width; h = c.ref_height }

abbrev pub colour_rect : ColourWords → Rect
colour_rect c = record { x = c.x; y = c.y; w = c.width; h = c.height }
