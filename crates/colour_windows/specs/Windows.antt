-- "Mode 5 derives parameters from two windows of ref_width by ref_height .. luma from plane 0 at luma x, y, each sample's reading times 8; chroma from
-- the job's plane at x - left_lines, y - above_lines." "It reads its whole luma window and the chroma samples that count." (document 02, request (v))
use Rattle.std.specs.Prelude.{Bool, true, ◌&&◌, List, ℕ, ◌*◌, ℤ, pos, Float, get_or}
use Rattle.std.specs.Float.{nan}
use Rattle.numbers.specs.Depth.{most}
use Rattle.samples.specs.Sample.{is_sample, reading}
use Rattle.edge_line.specs.Every.{every}
use Rattle.colour_sums.specs.Places.{walk}
use Rattle.colour_words.specs.declared.ColourWords.{ColourWords}
use Rattle.colour_words.specs.Colour.{colour_window, luma_place, chroma_place}

-- the two windows of planes with rows of W samples, as derivation and prediction take them: by column and row
abbrev pub luma_in : ℕ → ColourWords → List Float → ℕ → ℕ → ℤ
luma_in W c luma i j = pos (8 * reading (get_or luma (luma_place W c i j) nan))

abbrev pub chroma_in : ℕ → ColourWords → List Float → ℕ → ℕ → ℤ
chroma_in W c chroma i j = pos (reading (get_or chroma (chroma_place W c i j) nan))

-- whether the sample at a column and a row of a window is "a number in 0..M"
abbrev pub luma_ok : ℕ → ColourWords → List Float → ℕ → ℕ → Bool
luma_ok W c luma i j = is_sample (pos (most c.d)) (get_or luma (luma_place W c i j) nan)

abbrev pub chroma_ok : ℕ → ColourWords → List Float → ℕ → ℕ → Bool
chroma_ok W c chroma i j = is_sample (pos (most c.d)) (get_or chroma (chroma_place W c i j) nan)

-- 8: "a plane sample .. that is read is not a number in 0..M", of the luma window and of the chroma samples that count
unfoldable pub luma_read : ℕ → ColourWords → List Float → Bool
luma_read W c luma = every (λ j. every (λ i. luma_ok W c luma i j) c.ref_width) c.ref_height

unfoldable pub chroma_read : ℕ → ColourWords → List Float → Bool
chroma_read W c chroma = walk (colour_window c) (λ i j ok. ok && chroma_ok W c chroma i j) true
