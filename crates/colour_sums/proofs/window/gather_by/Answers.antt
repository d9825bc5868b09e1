-- `gather_by` meets its contract, whether by rows or by columns. Assumes nothing.
use mathlib.Core.Logic.{inl, inr}
use mathlib.Core.Path.{sym, ◌∙◌, subst}
use Rattle.colour_terms.specs.Terms.{entry}
use Rattle.colour_samples.proofs.Grown.{nine-start}
use Rattle.colour_sums.specs.AsLines.{TookAll}
use Rattle.colour_sums.proofs.Whole.{took-lines, gathered-is}
use Rattle.colour_sums.proofs.window.gather_by.Goals as goal

pub totals-requires : goal.totals-requires
totals-requires g c =
    let a = c.args in
    (took-lines a.depth.d a.direction a.luma.now a.chroma.now a.w _ _ _ _ _ _
    c.above_rows.ensures (inr c.below_columns.ensures) c.behind-back.ensures c.requires.nothing c.take-above.ensures c.take-all.ensures).grown 0 (nine-start 0)

pub totals-requires-else-columns : goal.totals-requires-else-columns
totals-requires-else-columns g c =
    let a = c.args in
    (took-lines a.depth.d a.direction a.luma.now a.chroma.now a.w _ _ _ _ _ _
    c.above_rows.ensures (inl c.below_rows.ensures) c.behind-back.ensures c.requires.nothing c.take-above.ensures c.take-all-else-columns.ensures).grown 0 (nine-start 0)

pub returns-then-columns : goal.returns-then-columns
returns-then-columns g c =
    let a = c.args in
    c.gathered_of.ensures ∙ gathered-is a.depth.d a.direction (entry a.luma.now) (entry a.chroma.now) a.w c.totals.result
    (subst (TookAll a.depth.d a.direction (entry a.luma.now) (entry a.chroma.now) a.w) (sym c.totals.ensures)
    (took-lines a.depth.d a.direction a.luma.now a.chroma.now a.w _ _ _ _ _ _
    c.above_rows.ensures (inr c.below_columns.ensures) c.behind-back.ensures c.requires.nothing c.take-above.ensures c.take-all.ensures))

pub returns-else-columns : goal.returns-else-columns
returns-else-columns g c =
    let a = c.args in
    c.gathered_of-else-columns.ensures ∙ gathered-is a.depth.d a.direction (entry a.luma.now) (entry a.chroma.now) a.w c.totals-else-columns.result
    (subst (TookAll a.depth.d a.direction (entry a.luma.now) (entry a.chroma.now) a.w) (sym c.totals-else-columns.ensures)
    (took-lines a.depth.d a.direction a.luma.now a.chroma.now a.w _ _ _ _ _ _
    c.above_rows.ensures (inl c.below_rows.ensures) c.behind-back.ensures c.requires.nothing c.take-above.ensures c.take-all-else-columns.ensures))
