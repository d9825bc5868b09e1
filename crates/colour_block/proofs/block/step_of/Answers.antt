-- `step_of` meets its contract: no direction goes back more than a row and a column. Assumes nothing.
use mathlib.Core.Path.{◌∙◌, ap}
use Prim.Native.Nat.{◌+◌, ◌*◌}
use native.Mathlib.Omega.{arith}
use Rattle.numbers.specs.Colour.{columns_left}
use Rattle.colour_terms.specs.Terms.{stride}
use Rattle.colour_rules.proofs.Before.{columns-one}
use Rattle.colour_block.specs.Lines.{step_of}
use Rattle.colour_block.proofs.Taken.{up-at-one}
use Rattle.colour_block.proofs.block.step_of.Goals as goal

pub overflow_mul-result : goal.overflow_mul-result
overflow_mul-result c = record { fits = omega (arith, c.up_at.ensures, up-at-one c.args.b c.args.j) }

pub overflow_add-result : goal.overflow_add-result
overflow_add-result c =
    let u = c.before.before in
    record { fits = omega (arith, u.up_at.ensures, up-at-one u.args.b u.args.j, c.columns_left.ensures, columns-one c.colour.result) }

pub returns : goal.returns
unfolding step_of
returns c =
    let left = c.columns_left.ensures ∙ ap columns_left c.colour.ensures in
    λ i. c.up_at.ensures i * stride + left i
