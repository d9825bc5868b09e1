-- What a call that is not refused can count on, whose output has n entries.
use Rattle.std.specs.Prelude.{◌≡◌, true, List, ℕ, ◌*◌, ◌≤◌, ℤ, length}
use Rattle.numbers.specs.Colour.{is_colour}
use Rattle.numbers.specs.Depth.{is_depth}
use Rattle.colour_terms.specs.Terms.{entry}
use Rattle.colour_rules.specs.Placed.{InReference}
use Rattle.colour_rules.specs.Rules.{is_luma_in_range}
use Rattle.colour_rules.specs.declared.block.Block.{Block}

pub record BlockAccepted (luma : List ℤ) (b : Block) (n : ℕ) : Type 0 where
  pub depth : is_depth b.d ≡ true
  pub colour : is_colour b.direction ≡ true
  pub place : InReference b (length luma)
  pub long : b.width * b.height ≤ n
  pub read : is_luma_in_range (entry luma) b ≡ true
