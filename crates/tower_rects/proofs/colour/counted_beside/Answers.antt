-- `counted_beside` meets its contract. Assumes nothing.
use mathlib.Core.Path.{◌∙◌, ap}
use Prim.Native.Nat.{◌+◌, ◌-◌}
use native.Mathlib.Omega.{arith}
use Rattle.colour_sums.specs.Places.{high, rows_above, few}
use Rattle.tower_rects.proofs.colour.counted_beside.Goals as goal

pub overflow_add-result-3 : goal.overflow_add-result-3
overflow_add-result-3 c =
    omega (arith, c.rows_above-above.ensures, ap (λ v. v.above_lines) c.window-w.ensures)

pub returns : goal.returns
returns c =
    let w = c.window-w.ensures in
    let s = c.args.c in
    let above = c.rows_above-above.ensures ∙ ap rows_above w in
    let all = c.saturating_sub-high.ensures ∙ ap high w in
    let across = c.few.ensures ∙ ap few w in
    let down = c.saturating_sub.ensures ∙ (λ j. all j - above j) in
    λ j. record { x = s.x - s.left_lines + 1; y = s.y - s.above_lines + 1 + above j; w = across j; h = down j }
