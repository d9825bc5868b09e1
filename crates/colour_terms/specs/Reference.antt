-- Refusals 11 and 12 (document 01, Refusal numbers), what derivation and prediction test alike: the reference's sizes, its list, and the lines.
use Rattle.std.specs.Prelude.{ℕ, ◌*◌, Bool, ◌&&◌, leb}
use Rattle.colour_terms.specs.Terms.{stride}

-- columns, rows and lines are at most so many
abbrev pub most_lines : ℕ
most_lines = 256

-- "ref_width or ref_height above 256"
unfoldable pub is_sizes : ℕ → ℕ → Bool
is_sizes width height = leb width most_lines && leb height most_lines

-- "luma (in derivation also chroma) shorter than ref_height x 256", of a list with n entries
unfoldable pub is_held : ℕ → ℕ → Bool
is_held height n = leb (height * stride) n

-- both
unfoldable pub is_reference : ℕ → ℕ → ℕ → Bool
is_reference width height n = is_sizes width height && is_held height n

-- "above_lines or left_lines above 256"
unfoldable pub is_lines : ℕ → ℕ → Bool
is_lines above left = leb above most_lines && leb left most_lines
