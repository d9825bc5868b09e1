-- `Totals::add` meets its contract. Assumes nothing.
use Rattle.std.proofs.Common.{rules}
use mathlib.Core.Path.{◌∙◌}
use mir.Syntax.{w32}
use mir.Val.{SFits}
use Rattle.signed.proofs.Bound.{back}
use Rattle.colour_samples.specs.Nine.{added}
use Rattle.colour_samples.proofs.OneSample.{took_one}
use Rattle.colour_samples.proofs.totals.Totals.add.Goals as goal

pub returns : goal.returns
returns c =
    let a = c.args in
    let d = a.depth.of_depth in
    let k : SFits w32 a.s.chroma = search rules in
    let low = simp (back w32 k) at c.low.ensures.0 in
    took_one a.depth.d d.least d.largest a.s.own a.s.centre a.s.chroma a.self (record { seen = c.with.result; sums = c.add.result }) c.with.ensures.1
    (c.add.ensures ∙ (λ j. added a.self.sums (c.of.ensures.0 j) (low j)))
