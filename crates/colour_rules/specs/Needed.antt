-- Prediction is "as in `predict_block`, where a missing neighbour is the centre" (document 01, Colour parameters): the places of luma that a predicted
-- sample needs. Column i and row j are counted from the block's own corner.
use Rattle.std.specs.Prelude.{ℕ, ◌+◌, ◌-◌, Bool, not, cond, ◌&&◌, List, [], ◌∷◌, ltb, ℤ}
use Rattle.numbers.specs.Colour.{the_colour, rows_up, columns_left}
use Rattle.colour_rules.specs.declared.block.Block.{Block}

-- a place of luma: column x and row y
pub record Place : Type 0 where
  pub x : ℕ
  pub y : ℕ

-- what stands there, where `at` tells it by column and row
abbrev pub value_at : (ℕ → ℕ → ℤ) → Place → ℤ
value_at at p = at p.x p.y

-- the line that is `back` lines before line k of a block whose first line is `start`; one that is before the block is there only with a neighbour, and
-- where it is missing line k takes its place
abbrev pub before : Bool → ℕ → ℕ → ℕ → ℕ
before there start back k = cond (ltb k back && not there) (start + k) (start + k - back)

-- the sample's own place
abbrev pub centre_at : Block → ℕ → ℕ → Place
centre_at b i j = record { x = b.left_lines + i; y = b.above_lines + j }

-- the direction's
unfoldable pub direction_at : Block → ℕ → ℕ → Place
direction_at b i j = record {
  x = before b.have_left b.left_lines (columns_left (the_colour b.direction)) i;
  y = before b.have_top b.above_lines (rows_up (the_colour b.direction)) j;
}

-- "a luma value that the direction's rule needs at a .. predicted place"
abbrev pub needed : Block → ℕ → ℕ → List Place
needed b i j = centre_at b i j ∷ direction_at b i j ∷ []
