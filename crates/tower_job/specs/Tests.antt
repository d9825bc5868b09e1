-- What request (v) of document 02 adds to the tests of a row, over whole numbers. Each test is true where its refusal is not given; the refusal is
-- quoted over it.
use Rattle.std.specs.Prelude.{Bool, not, ◌&&◌, ℕ, ◌+◌, ◌-◌, leb, eqb}
use Rattle.job.specs.Row.{Row}
use Rattle.colour_terms.specs.Reference.{is_lines}
use Rattle.colour_rules.specs.Rules.{is_placed, has_lines}
use Rattle.tower_words.specs.Limits.{luma_plane, last_plane}
use Rattle.tower_words.specs.declared.word.TowerWord.TheVariants.{HaveTop, HaveLeft, SpareA, SpareB, SpareC, SpareD}
use Rattle.colour_words.specs.declared.ColourWords.{ColourWords}
use Rattle.colour_words.specs.Colour.{colour_block}
use Rattle.tower_job.specs.Row.{tower_word, plane_of, is_colour_mode}

-- "a nonzero spare word"
unfoldable pub is_spare : Row → Bool
is_spare row =
    eqb (tower_word row SpareA) 0 && eqb (tower_word row SpareB) 0 && eqb (tower_word row SpareC) 0 && eqb (tower_word row SpareD) 0

-- 3, in every mode: "plane above 2, mode 5 on plane 0, have_top or have_left above 1, or a nonzero spare word"
unfoldable pub is_tower : Row → Bool
is_tower row =
    leb (plane_of row) last_plane && not (is_colour_mode row && eqb (plane_of row) luma_plane)
    && leb (tower_word row HaveTop) 1 && leb (tower_word row HaveLeft) 1 && is_spare row

-- n lines from `before` lines before `start` on lie in a side of `end`
unfoldable pub is_span : ℕ → ℕ → ℕ → ℕ → Bool
is_span start before n end = leb before start && leb (start - before + n) end

-- 4: "a window or block outside its plane"
unfoldable pub is_in_planes : ℕ → ℕ → ColourWords → Bool
is_in_planes W H c =
    is_span c.luma_x 0 c.ref_width W && is_span c.luma_y 0 c.ref_height H
    && is_span c.x c.left_lines c.ref_width W && is_span c.y c.above_lines c.ref_height H
    && is_span c.x 0 c.width W && is_span c.y 0 c.height H

-- 12, what derivation and prediction test, "also for left_lines + width > ref_width"
unfoldable pub is_colour_lines : ColourWords → Bool
is_colour_lines c =
    is_lines c.above_lines c.left_lines
    && (is_placed (colour_block c) && has_lines (colour_block c) && leb (c.left_lines + c.width) c.ref_width)
