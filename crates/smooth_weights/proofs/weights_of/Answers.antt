-- `weights_of` meets its contract: the table's rule, at each of the three scales. Assumes nothing.
use native.Mathlib.Omega.{arith}
use mathlib.Core.Path.{◌≡◌, sym, ◌∙◌, ap}
use Rattle.lists.specs.Fill.{tab}
use Rattle.smooth_weights.specs.Weights.{weight}
use Rattle.smooth_weights.proofs.Table.{table-row}
use Rattle.smooth_weights.proofs.weights_of.Goals as goal

pub returns-in-0 : goal.returns-in-0
returns-in-0 c = table-row 0 (omega arith) ∙ ap (λ s. tab 64 (weight s)) (sym c.in-0.is)

pub returns-in-1 : goal.returns-in-1
returns-in-1 c = table-row 1 (omega arith) ∙ ap (λ s. tab 64 (weight s)) (sym c.in-1.is)

pub returns-in_default : goal.returns-in_default
returns-in_default c =
    let s = c.before.before in
    let two : 2 ≡ s.args.s = omega (arith, c.in_default.in_default-own.rest.0.1, c.in_default.in_default-own.rest.1) in
    table-row 2 (omega arith) ∙ ap (λ s. tab 64 (weight s)) two
