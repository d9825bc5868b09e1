-- `row_rects` meets its contract. Assumes nothing.
use mathlib.Core.Path.{sym, ◌∙◌, ap, subst}
use native.Mathlib.Omega.{arith}
use Rattle.tower_job.proofs.Read.{refused-stands}
use Rattle.tower_rects.specs.Rows.{Inside, lowered_all}
use Rattle.tower_rects.proofs.ByMode.{top-few, base-near, base-inside, base-row, chroma-starts, colour-inside, colour-row}
use Rattle.tower_rects.proofs.read.row_rects.Goals as goal

pub returns-in_default : goal.returns-in_default
returns-in_default c =
    let a = c.args in
    let e = sym c.read_row.ensures ∙ c.in_default.is in
    rw (refused-stands a.width a.height a.n a.row.now e) c.untouched.ensures

pub overflow_mul-top : goal.overflow_mul-top
overflow_mul-top c =
    let h = c.requires.1 in
    omega (arith, top-few _ _ _ _ _ (sym c.read_row.ensures ∙ c.in-Ok.is) h)

pub base_rects-requires : goal.base_rects-requires
base_rects-requires c = base-near _ _ _ _ _ (sym c.read_row.ensures ∙ c.in-Ok.is) _ c.in-Base.is

pub lower_all-requires : goal.lower_all-requires
lower_all-requires c =
    let p = c.requires in
    let top = top-few _ _ _ _ _ (sym c.read_row.ensures ∙ c.in-Ok.is) p.1 in
    let here = base-inside _ _ _ _ _ (sym c.read_row.ensures ∙ c.in-Ok.is) _ c.in-Base.is p.0 p.1 in
    (top, top, subst (Inside 4096 4096) (sym c.base_rects.ensures) here)

pub colour_rects-requires : goal.colour_rects-requires
colour_rects-requires c = chroma-starts _ _ _ _ _ (sym c.read_row.ensures ∙ c.in-Ok.is) _ c.in-Colour.is

pub lower_all-requires-in-Colour : goal.lower_all-requires-in-Colour
lower_all-requires-in-Colour c =
    let p = c.requires in
    let top = top-few _ _ _ _ _ (sym c.read_row.ensures ∙ c.in-Ok.is) p.1 in
    let here = colour-inside _ _ _ _ _ (sym c.read_row.ensures ∙ c.in-Ok.is) _ c.in-Colour.is p.0 p.1 in
    (omega arith, top, subst (Inside 4096 4096) (sym c.colour_rects.ensures) here)

pub returns-in-Base : goal.returns-in-Base
returns-in-Base c =
    c.lower_all.ensures ∙ ap (lowered_all _ _) c.base_rects.ensures ∙ base-row _ _ _ _ _ (sym c.read_row.ensures ∙ c.in-Ok.is) _ c.in-Base.is

pub returns-in-Colour : goal.returns-in-Colour
returns-in-Colour c =
    c.lower_all-in-Colour.ensures ∙ ap (lowered_all _ _) c.colour_rects.ensures ∙ colour-row _ _ _ _ _ (sym c.read_row.ensures ∙ c.in-Ok.is) _ c.in-Colour.is
