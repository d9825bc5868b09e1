-- What the rules 11 and 12 grant of a block whose luma has n entries.
use Rattle.std.specs.Prelude.{ℕ, ◌+◌, ◌*◌, ◌≤◌, ◌≡◌, true}
use Rattle.colour_terms.specs.Reference.{most_lines}
use Rattle.colour_terms.specs.Terms.{stride}
use Rattle.colour_rules.specs.Rules.{largest_side}
use Rattle.colour_rules.specs.declared.block.Block.{Block}

pub record InReference (b : Block) (n : ℕ) : Type 0 where
  pub above : b.above_lines ≤ most_lines
  pub left : b.left_lines ≤ most_lines
  pub wide : (1 ≤ b.width) × (b.width ≤ largest_side)
  pub high : (1 ≤ b.height) × (b.height ≤ largest_side)
  pub across : b.left_lines + b.width ≤ stride
  pub down : b.above_lines + b.height ≤ b.ref_height
  pub lines : b.ref_height ≤ most_lines
  pub long : b.ref_height * stride ≤ n
  pub top : b.have_top ≡ true → 1 ≤ b.above_lines
  pub side : b.have_left ≡ true → 1 ≤ b.left_lines
