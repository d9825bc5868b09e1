-- `rows_clash` meets its contract: the parts of the plan are its rows. Assumes nothing.
use mathlib.Core.Path.{◌∙◌}
use Rattle.touches.specs.Rects.{clash_of}
use Rattle.clash.proofs.Placed.{row_is}
use Rattle.clash.proofs.pair.rows_clash.Goals as goal

pub returns : goal.returns
returns c =
    let a = c.args in
    c.clashes.ensures ∙ (λ k. clash_of a.width a.height a.n (row_is a.plan.now a.i k) (row_is a.plan.now a.j k))
