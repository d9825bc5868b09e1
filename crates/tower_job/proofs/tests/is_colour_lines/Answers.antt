-- `is_colour_lines` meets its contract. Assumes nothing.
use mathlib.Core.Path.{◌≡◌, sym, ◌∙◌, ap}
use mathlib.Core.Bool.{Bool, ◌&&◌}
use Prim.Native.Nat.{◌+◌}
use native.Mathlib.Omega.{arith}
use lib.Dec.{leb}
use Rattle.colour_terms.specs.Reference.{is_lines}
use Rattle.colour_rules.specs.Rules.{is_placed, has_lines}
use Rattle.colour_rules.specs.declared.block.Block.{Block}
use Rattle.colour_words.specs.declared.ColourWords.{ColourWords}
use Rattle.colour_words.specs.Colour.{colour_block}
use Rattle.tower_job.specs.Tests.{is_colour_lines}
use Rattle.tower_job.proofs.tests.is_colour_lines.Goals as goal

abbrev rest : ColourWords → Bool
rest w = is_placed (colour_block w) && has_lines (colour_block w) && leb (w.left_lines + w.width) w.ref_width

-- as the block has them
lines_of : {b : Block} (w : ColourWords) → b ≡ colour_block w → is_lines b.above_lines b.left_lines ≡ is_lines w.above_lines w.left_lines
lines_of w e = ap (λ k. is_lines k.above_lines k.left_lines) e

pub returns-then-not-is_lines : goal.returns-then-not-is_lines
unfolding is_colour_lines
returns-then-not-is_lines c =
    sym (ap (λ t. t && rest c.args.c) (sym (c.is_lines.ensures ∙ lines_of c.args.c c.block-b.ensures) ∙ c.if-not-is_lines.true))

pub is_placed-placed-requires : goal.is_placed-placed-requires
is_placed-placed-requires c = sym c.is_lines.ensures ∙ c.if-not-is_lines.false

pub overflow_add-across : goal.overflow_add-across
overflow_add-across c =
    let e = c.block-b.ensures in
    omega (arith, ap (λ k. k.left_lines) e, ap (λ k. k.width) e, c)

pub returns : goal.returns
unfolding is_colour_lines
returns c =
    let b = c.block-b.ensures in
    (λ j. (c.is_placed-placed.ensures ∙ ap is_placed b) j && (c.has_neighbours-there.ensures ∙ ap has_lines b) j && leb ((b j).left_lines + (b j).width) (b j).ref_width)
    ∙ sym (ap (λ t. t && rest c.args.c) (sym (c.is_lines.ensures ∙ lines_of c.args.c c.block-b.ensures) ∙ c.if-not-is_lines.false))
