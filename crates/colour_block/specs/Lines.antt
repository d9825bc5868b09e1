-- Where the code finds the direction's luma along a row, as entries of the list.
use Rattle.std.specs.Prelude.{ℕ, ◌+◌, ◌-◌, ◌*◌, ◌≤◌, ◌<◌, not, cond, ◌&&◌, List, ltb, ℤ, length}
use Rattle.numbers.specs.Colour.{the_colour, rows_up, columns_left}
use Rattle.colour_terms.specs.Terms.{stride}
use Rattle.colour_row.specs.Mixed.{Luma, mixed}
use Rattle.colour_row.specs.Runs.{at}
use Rattle.colour_row.specs.declared.mix.Mix.{Mix}
use Rattle.colour_rules.specs.declared.block.Block.{Block}

-- where row j of the block starts
abbrev pub row_start : Block → ℕ → ℕ
row_start b j = (b.above_lines + j) * stride + b.left_lines

-- so many samples at the start of a row take the centre for want of a neighbour
unfoldable pub lead_of : Block → ℕ
lead_of b = cond b.have_left 0 (columns_left (the_colour b.direction))

-- so many rows above row j the direction's luma is: none where they are missing
unfoldable pub up_at : Block → ℕ → ℕ
up_at b j = cond (ltb j (rows_up (the_colour b.direction)) && not b.have_top) 0 (rows_up (the_colour b.direction))

-- so far before the centre the direction's luma is, after them
unfoldable pub step_of : Block → ℕ → ℕ
step_of b j = up_at b j * stride + columns_left (the_colour b.direction)

-- the direction's entry for column i of a row that starts at s
abbrev pub direction_entry : ℕ → ℕ → ℕ → ℕ → ℕ
direction_entry s step lead i = cond (ltb i lead) (s + i) (s + i - step)

-- the luma of a row of n samples
pub record LumaRow (k : Mix) (luma : List ℤ) (s step lead n : ℕ) : Type 0 where
  pub leads : lead ≤ n
  pub behind : step ≤ s + lead
  pub long : s + n ≤ length luma
  pub near-in : (i : ℕ) → i < n → Luma k (at luma (direction_entry s step lead i))
  pub centre-in : (i : ℕ) → i < n → Luma k (at luma (s + i))

-- the sample at row r and column c, as the code finds it
abbrev pub found : Mix → List ℤ → Block → ℕ → ℕ → ℤ
found k luma b r c = mixed k (at luma (direction_entry (row_start b r) (step_of b r) (lead_of b) c)) (at luma (row_start b r + c))
