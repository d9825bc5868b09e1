-- The area of luma that a block needs: its own, with the row above or the column before where the direction takes them and they are there.
use Rattle.std.specs.Prelude.{ℕ, ◌+◌, ◌*◌, ◌≤◌, ◌<◌, cond}
use Rattle.numbers.specs.Colour.{the_colour, rows_up, columns_left}
use Rattle.colour_terms.specs.Terms.{stride}
use Rattle.colour_rules.specs.Rules.{largest_side}
use Rattle.colour_rules.specs.declared.block.Block.{Block}

unfoldable pub up_of : Block → ℕ
up_of b = cond b.have_top (rows_up (the_colour b.direction)) 0

unfoldable pub beside_of : Block → ℕ
beside_of b = cond b.have_left (columns_left (the_colour b.direction)) 0

-- rows of a list of n entries, the first from s on
pub record Area (s width height n : ℕ) : Type 0 where
  pub lies : (j : ℕ) → j < height → s + j * stride + width ≤ n
  pub starts : s ≤ stride * stride
  pub high : height ≤ largest_side + 1
