-- What the code goes by: a table of the rectangles of a plan's rows (refusal 23, document 02, request (v)).
use Rattle.std.specs.Prelude.{◌≡◌, ◌⊎◌, true, List, ℕ, ◌+◌, ◌*◌, ◌≤◌, ◌<◌, ℤ, pos, length, get_or, set}
use Rattle.reorder.specs.Rect.{Rect}
use Rattle.reorder.specs.Check.{once_b}
use Rattle.rect_order.specs.Table.{rect_in, Plain}
use Rattle.tower_job.specs.Row.{tower_row}
use Rattle.tower_touches.specs.Rects.{nothing}
use Rattle.tower_rects.specs.Rows.{row_rects}

-- the four numbers of a rectangle from place p on
unfoldable pub with_rect : List ℤ → ℕ → Rect → List ℤ
with_rect table p R = set (set (set (set table p (pos R.x)) (p + 1) (pos (R.x + R.w))) (p + 2) (pos R.y)) (p + 3) (pos (R.y + R.h))

-- the first n rectangles of row i are those of a list; the other rows stay
pub record Stored (table table' : List ℤ) (i n : ℕ) (Rs : List Rect) : Type 0 where
  pub here : (k : ℕ) → k < n → rect_in table' i k ≡ get_or Rs k nothing
  pub other : (p : ℕ) → (p < 24 * i) ⊎ (24 * i + 24 ≤ p) → get_or table' p (pos 0) ≡ get_or table p (pos 0)
  pub plain : Plain table'
  pub long : length table' ≡ length table

-- the rows of the table below m are those of the plan
pub record Filled (W H n : ℕ) (plan : List ℕ) (table : List ℤ) (m : ℕ) : Type 0 where
  pub rows : (i : ℕ) → i < m → (k : ℕ) → k < 6 → rect_in table i k ≡ get_or (row_rects W H n (tower_row plan i)) k nothing
  pub plain : Plain table

-- what the test asks: "plan not whole rows or above 1,024 jobs; order .. not one entry a job" does not hold, nor does refusal 22
pub record TowerWalk (W H : ℕ) (plan order : List ℕ) : Type 0 where
  pub wide : W ≤ 4096
  pub high : H ≤ 4096
  pub whole : length plan ≡ 32 * length order
  pub few : length order ≤ 1024
  pub once : once_b (length order) order ≡ true
