-- How far the area of luma that a block needs reaches above the block and before it, and that it lies in the list. Assumes nothing.
use mathlib.Core.Path.{◌≡◌, refl}
use mathlib.Core.Bool.{Bool, true, false, cond}
use Prim.Native.Nat.{ℕ, ◌+◌, ◌-◌, ◌*◌, ◌≤◌}
use native.Mathlib.Omega.{arith}
use Rattle.numbers.specs.Colour.{the_colour, rows_up, columns_left}
use Rattle.colour_terms.specs.Terms.{stride}
use Rattle.colour_rules.specs.Area.{up_of, beside_of, Area}
use Rattle.colour_rules.specs.Placed.{InReference}
use Rattle.colour_rules.specs.declared.block.Block.{Block}
use Rattle.colour_rules.proofs.Before.{rows-one, columns-one}

-- of a direction that goes `back` lines
abbrev pub reach : Bool → ℕ → ℕ
reach there back = cond there back 0

pub no-reach : (there : Bool) → reach there 0 ≡ 0
no-reach true = refl
no-reach false = refl

pub reach-most : (there : Bool) (back lines : ℕ) → back ≤ 1 → (there ≡ true → 1 ≤ lines) → reach there back ≤ lines
reach-most true back lines h k = omega (arith, k refl)
reach-most false back lines h k = omega arith

module _ (b : Block) (n : ℕ) (g : InReference b n) where
  abbrev top : ℕ
  top = b.above_lines

  abbrev left : ℕ
  left = b.left_lines

  pub up_one : up_of b ≤ 1
  unfolding up_of
  up_one = reach-most b.have_top (rows_up (the_colour b.direction)) 1 (rows-one (the_colour b.direction)) (λ e. omega arith)

  pub beside-one : beside_of b ≤ 1
  unfolding beside_of
  beside-one = reach-most b.have_left (columns_left (the_colour b.direction)) 1 (columns-one (the_colour b.direction)) (λ e. omega arith)

  pub up-most : up_of b ≤ top
  unfolding up_of
  up-most = reach-most b.have_top (rows_up (the_colour b.direction)) top (rows-one (the_colour b.direction)) g.top

  pub beside-most : beside_of b ≤ left
  unfolding beside_of
  beside-most = reach-most b.have_left (columns_left (the_colour b.direction)) left (columns-one (the_colour b.direction)) g.side

  -- the area lies in the list
  pub area : (u e : ℕ) → u ≤ top → e ≤ left → u ≤ 1 → Area ((top - u) * stride + (left - e)) (b.width + e) (b.height + u) n
  area u e hu he one = record {
    lies = λ j h. omega (arith, g.across, g.down, g.long);
    starts = omega (arith, g.down, g.lines, g.high, g.across, g.wide);
    high = omega (arith, g.high);
  }
