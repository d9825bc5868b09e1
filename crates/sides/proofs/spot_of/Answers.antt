-- `spot_of` meets its contract. Assumes nothing.
use mathlib.Core.Path.{sym, ◌∙◌, ap}
use mathlib.Core.Bool.{cond}
use mir.Syntax.{w32}
use Rattle.signed.proofs.Bound.{back}
use Rattle.sides.specs.declared.Spot.TheVariants.{Sample, Number}
use Rattle.sides.proofs.spot_of.Goals as goal

pub returns-then-sample : goal.returns-then-sample
returns-then-sample c = let a = c.args in sym (ap (λ t. cond t (Sample a.place) (Number a.number)) c.if-sample.true)

pub returns-else-sample : goal.returns-else-sample
returns-else-sample c =
    let a = c.args in
    ap Number (back w32 c.ranges.number) ∙ sym (ap (λ t. cond t (Sample a.place) (Number a.number)) c.if-sample.false)
