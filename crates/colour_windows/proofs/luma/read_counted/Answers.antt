-- `read_counted` meets its contract: the places that count are those of two rectangles. Assumes nothing.
use mathlib.Core.Path.{◌∙◌, ap}
use Rattle.numbers.specs.Colour.{the_colour, rows_up, columns_left}
use Rattle.colour_rules.specs.declared.block.Block.{Block}
use Rattle.colour_windows.specs.Held.{above_in, below_in}
use Rattle.colour_windows.proofs.Read.{counted-held}
use Rattle.colour_windows.proofs.luma.read_counted.Goals as goal

pub returns : goal.returns
returns c =
    let direction = c.colour-direction.ensures ∙ ap (λ (b : Block). the_colour b.direction) c.block.ensures in
    counted-held c.requires.0 _ _ _ _ (c.above_in.ensures ∙ ap above_in c.window-w.ensures) (c.below_in.ensures ∙ ap below_in c.window-w.ensures)
    (c.rows_up-up.ensures ∙ ap rows_up direction) (c.columns_left-left.ensures ∙ ap columns_left direction) c.read_around.ensures
    c.read_around-2.ensures
