-- `counted_above` meets its contract. Assumes nothing.
use mathlib.Core.Path.{◌∙◌, ap}
use Prim.Native.Nat.{◌+◌, ◌-◌}
use Rattle.colour_sums.specs.Places.{wide, rows_above}
use Rattle.tower_rects.proofs.colour.counted_above.Goals as goal

pub returns : goal.returns
returns c =
    let w = c.window-w.ensures in
    let s = c.args.c in
    let across = c.saturating_sub.ensures ∙ ap wide w in
    let down = c.rows_above.ensures ∙ ap rows_above w in
    λ j. record { x = s.x - s.left_lines + 1; y = s.y - s.above_lines + 1; w = across j; h = down j }
