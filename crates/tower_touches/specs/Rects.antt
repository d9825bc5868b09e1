-- What a tower's job reads and writes, by rectangles of planes: five that it reads, of which some are empty, and one block. proofs/Exact shows that they
-- are the same samples.
use Rattle.std.specs.Prelude.{Bool, true, false, List, [], ◌∷◌, ℕ}
use Rattle.reorder.specs.Rect.{Rect, clash_b}
use Rattle.planes.specs.Rects.{PlaneRect, talls}
use Rattle.job.specs.Row.{Row, spec_of}
use Rattle.touches.specs.Rects.{runs_of}
use Rattle.clash.specs.Hull.{only_if}
use Rattle.colour_words.specs.Colour.{luma_rect}
use Rattle.colour_words.specs.Counted.{above_rect, beside_rect}
use Rattle.tower_words.specs.Limits.{luma_plane}
use Rattle.tower_job.specs.Row.{base_row, plane_of, is_colour_mode, colour_of_row}
use Rattle.tower_job.specs.Rules.{tower_stands}
use Rattle.tower_touches.specs.Touches.{written_rect}

-- rectangles of plane k
abbrev pub on_plane : ℕ → List Rect → List PlaneRect
on_plane k [] = []
on_plane k (R ∷ Rs) = record { plane = k; rect = R } ∷ on_plane k Rs

abbrev pub nothing : Rect
nothing = record { x = 0; y = 0; w = 0; h = 0 }

-- the luma window, and the two of the chroma samples that count
abbrev pub colour_rects : Bool → Row → List PlaneRect
colour_rects on row =
    record { plane = luma_plane; rect = only_if on (luma_rect (colour_of_row row)) } ∷
    on_plane (plane_of row) (only_if on (above_rect (colour_of_row row)) ∷ only_if on (beside_rect (colour_of_row row)) ∷ nothing ∷ nothing ∷ [])

abbrev pub rects_by : Bool → Bool → Row → List PlaneRect
rects_by true on row = colour_rects on row
rects_by false on row = on_plane (plane_of row) (runs_of on (spec_of (base_row row)))

unfoldable pub tower_reads : ℕ → ℕ → ℕ → Row → List PlaneRect
tower_reads W H n row = rects_by (is_colour_mode row) (tower_stands W H n row) row

unfoldable pub tower_writes : ℕ → ℕ → ℕ → Row → List PlaneRect
tower_writes W H n row = on_plane (plane_of row) (only_if (tower_stands W H n row) (written_rect row) ∷ [])

-- the test of two jobs, in the tall picture
unfoldable pub tower_clash : ℕ → ℕ → ℕ → Row → Row → Bool
tower_clash W H n i j =
    clash_b (talls H (tower_reads W H n i)) (talls H (tower_writes W H n i)) (talls H (tower_reads W H n j)) (talls H (tower_writes W H n j))
