-- The columns that an order is tested with (refusal 23, document 01, Refusal numbers): the table's numbers in 24 parts of 1,024, one for each place
-- in a row, so that many rows are compared at a time. A row that has not run has zeros. And what a search of them finds out.
use Rattle.std.specs.Prelude.{◌≡◌, ◌⊎◌, ◌≢◌, Bool, true, false, List, ℕ, ◌+◌, ◌*◌, ◌≤◌, ◌<◌, ℤ, pos, nat_abs, length, get_or}
use Rattle.reorder.specs.Rect.{Rect, meet_b}
use Rattle.rect_order.specs.Table.{rect_between, rect_in, Plain}
use Rattle.rect_order.specs.declared.bounds.Bounds.{Bounds}

-- ---- bounds: a rectangle in the code's hands

abbrev pub span_of : Bounds → Rect
span_of s = rect_between s.x0 s.x1 s.y0 s.y1

-- those of rectangle k of row i of the table
abbrev pub bounds_in : List ℤ → ℕ → ℕ → Bounds
bounds_in table i k = record {
  x0 = get_or table (24 * i + 4 * k) (pos 0);
  x1 = get_or table (24 * i + 4 * k + 1) (pos 0);
  y0 = get_or table (24 * i + 4 * k + 2) (pos 0);
  y1 = get_or table (24 * i + 4 * k + 3) (pos 0);
}

pub record PlainBounds (s : Bounds) : Type 0 where
  pub x0 : s.x0 ≡ pos (nat_abs s.x0)
  pub x1 : s.x1 ≡ pos (nat_abs s.x1)
  pub y0 : s.y0 ≡ pos (nat_abs s.y0)
  pub y1 : s.y1 ≡ pos (nat_abs s.y1)

-- ---- columns

-- the rectangle whose first number is at place p: rectangle k of row j is at 4096 * k + j
abbrev pub rect_at : List ℤ → ℕ → Rect
rect_at columns p =
    rect_between
    (get_or columns p (pos 0))
    (get_or columns (1024 + p) (pos 0))
    (get_or columns (2048 + p) (pos 0))
    (get_or columns (3072 + p) (pos 0))

-- the first n numbers of row i of the table are entered
pub record Entered (table columns columns' : List ℤ) (i n : ℕ) : Type 0 where
  pub here : (m : ℕ) → m < n → get_or columns' (1024 * m + i) (pos 0) ≡ get_or table (24 * i + m) (pos 0)
  pub other : (m j : ℕ) → j < 1024 → j ≢ i → get_or columns' (1024 * m + j) (pos 0) ≡ get_or columns (1024 * m + j) (pos 0)
  pub plain : Plain columns'

-- ---- a search

-- r tells whether P holds anywhere from `from` up to `to`
pub record Tells (P : ℕ → Type 0) (from to : ℕ) (r : Bool) : Type 0 where
  pub some : r ≡ true → (j : ℕ) × (from ≤ j) × (j < to) × P j
  pub none : r ≡ false → (j : ℕ) → from ≤ j → j < to → ¬ (P j)

-- rectangle A meets one that row j writes or reads
abbrev pub WriteMeets : List ℤ → Rect → ℕ → Type 0
WriteMeets columns A j = (k : ℕ) × (k < 6) × (meet_b A (rect_at columns (4096 * k + j)) ≡ true)

-- one that row i reads meets what row j writes
abbrev pub ReadMeets : List ℤ → List ℤ → ℕ → ℕ → Type 0
ReadMeets columns table i j = (k : ℕ) × (1 ≤ k) × (k < 6) × (meet_b (rect_in table i k) (rect_at columns j) ≡ true)

-- row j of the columns clashes with row i of the table
abbrev pub Struck : List ℤ → List ℤ → ℕ → ℕ → Type 0
Struck columns table i j = WriteMeets columns (rect_in table i 0) j ⊎ ReadMeets columns table i j

-- columns of 24 parts, a table with row i, and a window that ends within the parts
pub record Held (columns table : List ℤ) (i top : ℕ) : Type 0 where
  pub parts : length columns ≡ 24576
  pub plain : Plain columns
  pub row : 24 * i + 24 ≤ length table
  pub few : i < 1024
  pub numbers : Plain table
  pub window : top ≤ 1024
