-- "Each reference sample that counts (index 1 to dimension - 2, and inside the above or left lines)" (document 01, Colour parameters): the places of
-- a window that count, and a walk over them, row by row.
use Rattle.std.specs.Prelude.{Bool, cond, ◌&&◌, ◌||◌, ℕ, suc, ◌+◌, ◌-◌, min, ltb, leb}
use Rattle.colour_lines.specs.Fold.{fold}
use Rattle.colour_sums.specs.declared.window.Window.{Window}

-- "index 1 to dimension - 2"
abbrev pub within : ℕ → ℕ → Bool
within dimension i = leb 1 i && ltb (i + 1) dimension

-- the place at column x and row y counts
unfoldable pub counts : Window → ℕ → ℕ → Bool
counts w x y = (within w.ref_width x && within w.ref_height y) && (ltb x w.left_lines || ltb y w.above_lines)

-- one row: f at each place of it that counts
unfoldable pub row : {A : Type 0} → Window → (ℕ → ℕ → A → A) → ℕ → A → A
row w f y a = fold w.ref_width (λ x b. cond (counts w x y) (f x y b) b) a

-- all rows
unfoldable pub walk : {A : Type 0} → Window → (ℕ → ℕ → A → A) → A → A
walk w f a = fold w.ref_height (row w f) a

-- ---- the same places, as the code meets them: rows inside the above lines from row 1 on, then the first columns of the rows below
abbrev pub wide : Window → ℕ
wide w = w.ref_width - 2

abbrev pub high : Window → ℕ
high w = w.ref_height - 2

-- how many rows are inside the above lines, and how many columns inside the left lines
abbrev pub rows_above : Window → ℕ
rows_above w = min (w.above_lines - 1) (high w)

abbrev pub few : Window → ℕ
few w = min (w.left_lines - 1) (wide w)

-- f at the first n columns from column 1 on of each of r rows from row m + 1 on
abbrev pub walk_block : {A : Type 0} → ℕ → ℕ → ℕ → (ℕ → ℕ → A → A) → A → A
walk_block m r n f a = fold r (λ j b. fold n (λ i c. f (suc i) (suc (m + j)) c) b) a

unfoldable pub walk_above : {A : Type 0} → Window → (ℕ → ℕ → A → A) → A → A
walk_above w f a = walk_block 0 (rows_above w) (wide w) f a

unfoldable pub walk_below : {A : Type 0} → Window → (ℕ → ℕ → A → A) → A → A
walk_below w f a = walk_block (rows_above w) (high w - rows_above w) (few w) f a
