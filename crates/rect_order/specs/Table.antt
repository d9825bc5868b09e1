-- A table of rectangles, by which an order is tested: refusal 23, "the order turns a clashing pair round" (document 01, Refusal numbers). A row of
-- it has 24 numbers, six rectangles of four: the first column, the column past the last, the first row, the row past the last. The first rectangle
-- is what the row writes, the five after it are what it reads. A rectangle with no column or no row is empty.
use Rattle.std.specs.Prelude.{◌≡◌, Bool, true, List, [], ◌∷◌, ℕ, ◌+◌, ◌*◌, ◌-◌, ◌≤◌, ℤ, pos, nat_abs, length, get_or}
use Rattle.reorder.specs.Rect.{Rect, clash_b}
use Rattle.reorder.specs.Check.{once_b}

-- from a column and a row up to a column and a row
abbrev pub rect_between : ℤ → ℤ → ℤ → ℤ → Rect
rect_between x0 x1 y0 y1 = record { x = nat_abs x0; y = nat_abs y0; w = nat_abs x1 - nat_abs x0; h = nat_abs y1 - nat_abs y0 }

-- rectangle k of row i
abbrev pub rect_in : List ℤ → ℕ → ℕ → Rect
rect_in table i k =
    rect_between
    (get_or table (24 * i + 4 * k) (pos 0))
    (get_or table (24 * i + 4 * k + 1) (pos 0))
    (get_or table (24 * i + 4 * k + 2) (pos 0))
    (get_or table (24 * i + 4 * k + 3) (pos 0))

-- what row i writes, and what it reads
abbrev pub writes_in : List ℤ → ℕ → List Rect
writes_in table i = rect_in table i 0 ∷ []

abbrev pub reads_in : List ℤ → ℕ → List Rect
reads_in table i = rect_in table i 1 ∷ rect_in table i 2 ∷ rect_in table i 3 ∷ rect_in table i 4 ∷ rect_in table i 5 ∷ []

-- one of the two rows writes a sample that the other reads or writes
unfoldable pub clash_in : List ℤ → ℕ → ℕ → Bool
clash_in table i j = clash_b (reads_in table i) (writes_in table i) (reads_in table j) (writes_in table j)

-- ---- what the code asks of a table

-- no number is negative
abbrev pub Plain : List ℤ → Type 0
Plain list = (p : ℕ) → get_or list p (pos 0) ≡ pos (nat_abs (get_or list p (pos 0)))

-- a row for each entry of an order of at most 1,024, which holds each row once
pub record Tabled (table : List ℤ) (order : List ℕ) : Type 0 where
  pub few : length order ≤ 1024
  pub once : once_b (length order) order ≡ true
  pub long : 24 * length order ≤ length table
  pub plain : Plain table
