-- `run_in_range` meets its contract. Assumes nothing.
use native.Mathlib.Numerals.{add-one}
use mathlib.Core.Path.{refl}
use lib.IntN.{pos}
use lib.ListN.{get_or}
use mir.Syntax.{w32}
use mir.Val.{SFits}
use Rattle.std.proofs.Common.{rules}
use Rattle.signed.proofs.Bound.{back}
use Rattle.edge_line.specs.Every.{every}
use Rattle.colour_rules.proofs.range.run_in_range.Goals as goal

pub loop-x-init : goal.loop-x-init
unfolding every
loop-x-init c = refl

pub loop-x-preserved : goal.loop-x-preserved
unfolding every
loop-x-preserved c =
    let x = get_or c.args.xs.now c.loop-x.x-index (pos 0) in
    let f : SFits w32 x = search rules in
    let here = simp (back w32 f) at c.in_range-ok.ensures in
    rw (add-one, c.loop-x.invariant, here)
