-- `chroma_read` meets its contract: the places that count are those of two rectangles. Assumes nothing.
use mathlib.Core.Path.{◌∙◌, ap}
use Rattle.colour_windows.specs.Windows.{chroma_ok}
use Rattle.colour_windows.specs.Held.{above_in, below_in}
use Rattle.colour_windows.proofs.Tested.{all_of, chroma-refused, chroma-told}
use Rattle.colour_windows.proofs.chroma.chroma_read.Goals as goal

pub returns-then-part_read : goal.returns-then-part_read
returns-then-part_read c =
    let a = c.args in
    let ok = all_of (chroma_ok a.width a.c a.chroma.now) in
    let first = c.part_read.ensures ∙ ap ok (c.above_in.ensures ∙ ap above_in c.window-w.ensures) in
    let second = c.part_read-then-part_read.ensures ∙ ap ok (c.below_in.ensures ∙ ap below_in c.window-w.ensures) in
    chroma-told a.width a.c a.chroma.now c.part_read.result first c.if-part_read.true c.part_read-then-part_read.result second

pub returns-else-part_read : goal.returns-else-part_read
returns-else-part_read c =
    let a = c.args in
    let first = c.part_read.ensures ∙ ap (all_of (chroma_ok a.width a.c a.chroma.now)) (c.above_in.ensures ∙ ap above_in c.window-w.ensures) in
    c.if-part_read.false ∙ chroma-refused a.width a.c a.chroma.now c.part_read.result first c.if-part_read.false
