-- "It reads its whole luma window and the chroma samples that count. A sample is now a plane number with a place; clash, read, write and demand 3 span
-- all three planes." "Jobs that 8 or 14 refuse still count for clashes; other refused jobs touch nothing." (document 02, request (v))
use Rattle.std.specs.Prelude.{◌≡◌, Bool, true, false, cond, ℕ, ◌<◌}
use Rattle.reorder.specs.Rect.{Rect, In}
use Rattle.planes.specs.Three.{PlanePlace}
use Rattle.job.specs.Row.{Row, spec_of}
use Rattle.touches.specs.Touches.{Read, block_of}
use Rattle.colour_sums.specs.Places.{counts}
use Rattle.colour_words.specs.declared.ColourWords.{ColourWords}
use Rattle.colour_words.specs.Colour.{colour_window, luma_place, chroma_place, colour_rect}
use Rattle.tower_words.specs.Limits.{luma_plane}
use Rattle.tower_job.specs.Row.{base_row, plane_of, is_colour_mode, colour_of_row}
use Rattle.tower_job.specs.Rules.{tower_stands}

-- mode 5 on plane k: a sample of the luma window, or one of the chroma window that counts
pub data ColourRead (W : ℕ) (c : ColourWords) (k : ℕ) (q : PlanePlace) : Type 0 where
  by-luma : (i j : ℕ) → i < c.ref_width → j < c.ref_height → q.plane ≡ luma_plane → q.place ≡ luma_place W c i j → ColourRead W c k q
  by-chroma : (i j : ℕ) → counts (colour_window c) i j ≡ true → q.plane ≡ k → q.place ≡ chroma_place W c i j → ColourRead W c k q

-- by whether the mode is 5: the other modes read what they read in the first library, on their plane
abbrev pub ReadBy : Bool → ℕ → Row → PlanePlace → Type 0
ReadBy true W row q = ColourRead W (colour_of_row row) (plane_of row) q
ReadBy false W row q = (q.plane ≡ plane_of row) × Read W (spec_of (base_row row)) q.place

abbrev pub TowerReads : ℕ → ℕ → ℕ → Row → PlanePlace → Type 0
TowerReads W H n row q = (tower_stands W H n row ≡ true) × ReadBy (is_colour_mode row) W row q

-- the block
abbrev pub written_rect : Row → Rect
written_rect row = cond (is_colour_mode row) (colour_rect (colour_of_row row)) (block_of (base_row row))

abbrev pub TowerWrites : ℕ → ℕ → ℕ → Row → PlanePlace → Type 0
TowerWrites W H n row q = (tower_stands W H n row ≡ true) × (q.plane ≡ plane_of row) × In W (written_rect row) q.place
