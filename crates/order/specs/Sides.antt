-- The lists of bounds that an order is tested with: of 1,024 rows, the first columns, the columns past the last, the first rows, the rows past the
-- last, in four parts of one list. A row that is not noted has zeros.
use Rattle.std.specs.Prelude.{Bool, false, ◌&&◌, ◌||◌, List, ℕ, zero, suc, ◌+◌, ℤ, pos, get_or, set}
use Rattle.std.specs.Int.Signed.{lt_z}
use Rattle.reorder.specs.Rect.{Rect}
use Rattle.job.specs.Row.{Row}
use Rattle.clash.specs.Hull.{block_for, hull_for}
use Rattle.order.specs.declared.bound_lists.Sides.{Sides}

-- the bounds of a rectangle
abbrev pub sides_of : Rect → Sides
sides_of R = record { x0 = pos R.x; x1 = pos (R.x + R.w); y0 = pos R.y; y1 = pos (R.y + R.h) }

-- those of a row's block, and of its hull
abbrev pub block_sides : ℕ → ℕ → ℕ → Row → Sides
block_sides W H n row = sides_of (block_for W H n row)

abbrev pub hull_sides : ℕ → ℕ → ℕ → Row → Sides
hull_sides W H n row = sides_of (hull_for W H n row)

-- row j of the lists
abbrev pub bounds_at : List ℤ → ℕ → Sides
bounds_at lists j = record {
  x0 = get_or lists j (pos 0);
  x1 = get_or lists (1024 + j) (pos 0);
  y0 = get_or lists (2048 + j) (pos 0);
  y1 = get_or lists (3072 + j) (pos 0);
}

-- two rectangles that are not empty overlap
unfoldable pub overlap : Sides → Sides → Bool
overlap t s = lt_z t.x0 s.x1 && lt_z s.x0 t.x1 && lt_z t.y0 s.y1 && lt_z s.y0 t.y1

abbrev pub met : List ℤ → ℕ → Sides → Bool
met lists j s = overlap (bounds_at lists j) s

-- any of n rows from `from` on overlaps
unfoldable pub any_met : List ℤ → Sides → ℕ → ℕ → Bool
any_met lists s from zero = false
any_met lists s from (suc n) = any_met lists s from n || met lists (from + n) s

-- the bounds s in row j of the lists
unfoldable pub noted : List ℤ → ℕ → Sides → List ℤ
noted lists j s = set (set (set (set lists j s.x0) (1024 + j) s.x1) (2048 + j) s.y0) (3072 + j) s.y1
