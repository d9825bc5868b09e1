-- `fill_row` meets its contract. Assumes nothing.
use mathlib.Core.Path.{sym, ◌∙◌, ap, subst}
use Rattle.tower_rects.specs.Rows.{Inside, row_rects}
use Rattle.tower_order.specs.Tables.{Stored}
use Rattle.tower_rects.proofs.Inside.{row_inside}
use Rattle.tower_order.proofs.Filled.{row_is}
use Rattle.tower_order.proofs.fill.fill_row.Goals as goal

pub put_row-requires : goal.put_row-requires
put_row-requires c =
    let few = row_inside c.args.width c.args.height c.args.n _ c.requires.0 c.requires.1 in
    (c.requires.3, c.requires.4, subst (Inside 32767 32767) (sym c.row_rects-r.ensures) few)

pub returns : goal.returns
returns c =
    let a = c.args in
    let e = c.row_rects-r.ensures ∙ ap (row_rects a.width a.height a.n) (row_is a.plan.now a.i) in
    subst (Stored _ _ _ 6) e c.put_row.ensures
