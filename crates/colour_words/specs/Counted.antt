-- "the chroma samples that count" (document 02, request (v)), as two rectangles of the job's plane, either of which may be empty: the rows of the
-- chroma window that are inside the above lines, and the first columns of the rows below them. Row 0 and column 0 of the window do not count.
use Rattle.std.specs.Prelude.{◌+◌, ◌-◌}
use Rattle.reorder.specs.Rect.{Rect}
use Rattle.colour_sums.specs.Places.{wide, high, rows_above, few}
use Rattle.colour_words.specs.declared.ColourWords.{ColourWords}
use Rattle.colour_words.specs.Colour.{colour_window}

abbrev pub above_rect : ColourWords → Rect
above_rect c = record {
  x = c.x - c.left_lines + 1;
  y = c.y - c.above_lines + 1;
  w = wide (colour_window c);
  h = rows_above (colour_window c);
}

abbrev pub beside_rect : ColourWords → Rect
beside_rect c = record {
  x = c.x - c.left_lines + 1;
  y = c.y - c.above_lines + 1 + rows_above (colour_window c);
  w = few (colour_window c);
  h = high (colour_window c) - rows_above (colour_window c);
}
