-- What the code goes by: the six rectangles of a tower's row in the tall picture, the one that it writes and then the five that it reads (refusal 23,
-- document 02, request (v)).
use Rattle.std.specs.Prelude.{cond, List, [], ◌∷◌, ◌++◌, ℕ, ◌+◌, ◌≤◌, take, drop}
use Rattle.reorder.specs.Rect.{Rect}
use Rattle.planes.specs.Rects.{Within, talls}
use Rattle.job.specs.Row.{Row}
use Rattle.clash.specs.Rects.{rect_of}
use Rattle.colour_words.specs.declared.ColourWords.{ColourWords}
use Rattle.tower_job.specs.Rules.{tower_stands}
use Rattle.tower_touches.specs.Rects.{nothing, tower_reads, tower_writes}
use Rattle.tower_rects.specs.declared.rects.JobRects.{JobRects}

-- those that the code has
abbrev pub rects_of : JobRects → List Rect
rects_of r = rect_of r.written ∷ rect_of r.a ∷ rect_of r.b ∷ rect_of r.c ∷ rect_of r.d ∷ rect_of r.e ∷ []

-- each lies in W columns and H rows
abbrev pub Inside : ℕ → ℕ → List Rect → Type 0
Inside W H [] = Unit {0}
Inside W H (R ∷ Rs) = Within W H R × Inside W H Rs

-- where a rectangle of a plane stands in a tall picture in which the plane starts at row `top`
abbrev pub lowered : ℕ → Rect → Rect
lowered top R = record { x = R.x; y = top + R.y; w = R.w; h = R.h }

abbrev pub lowereds : ℕ → List Rect → List Rect
lowereds top [] = []
lowereds top (R ∷ Rs) = lowered top R ∷ lowereds top Rs

-- six rectangles of which the second, the first that is read, is of a plane that starts at row `first`, and the others of one that starts at `top`
abbrev pub lowered_all : ℕ → ℕ → List Rect → List Rect
lowered_all first top Rs = lowereds top (take 1 Rs) ++ lowereds first (take 1 (drop 1 Rs)) ++ lowereds top (drop 2 Rs)

abbrev pub nothings : List Rect
nothings = nothing ∷ nothing ∷ nothing ∷ nothing ∷ nothing ∷ nothing ∷ []

-- what a row writes and then what it reads; a refused row has empty rectangles
abbrev pub row_rects : ℕ → ℕ → ℕ → Row → List Rect
row_rects W H n row = cond (tower_stands W H n row) (talls H (tower_writes W H n row) ++ talls H (tower_reads W H n row)) nothings

-- the chroma window of a colour job starts in the plane
pub record ChromaStarts (c : ColourWords) : Type 0 where
  pub left : c.left_lines ≤ c.x
  pub above : c.above_lines ≤ c.y
