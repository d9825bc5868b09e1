-- `side_read` meets its contract: a line's samples, or none. Assumes nothing.
use borrow.Author.Tests.{not-true, not-false}
use mathlib.Core.Path.{sym, ◌∙◌, ap}
use mathlib.Core.Bool.{Bool, true, cond}
use Prim.Native.Nat.{◌*◌}
use mathlib.Core.List.{List}
use lib.Ieee.{Float}
use lib.IntN.{ℤ, pos}
use Rattle.sides.specs.declared.Side.{Side}
use mir.Syntax.{w32}
use Rattle.signed.specs.Range.{inside}
use Rattle.signed.proofs.Bound.{back}
use Rattle.samples.specs.Sample.{is_sample}
use Rattle.edge_line.specs.Every.{every}
use Rattle.sides.specs.Side.{side_at}
use Rattle.neighbours.proofs.reads.side_read.Goals as goal

-- the test of a neighbour that is there
abbrev all : List Float → Side → ℤ → Bool
all plane side m = every (λ c. is_sample m (side_at plane side c)) (2 * side.bs)

pub returns-then-not-side : goal.returns-then-not-side
returns-then-not-side c = sym (ap (λ x. cond x (all c.args.plane.now c.args.side c.args.m) true) (not-true c.args.side.there c.if-not-side.true))

pub edge_in_range-requires : goal.edge_in_range-requires
edge_in_range-requires c =
    (c.requires.0.line (not-false c.args.side.there c.if-not-side.false), c.requires.0.ends.0, ap (inside (pos 4095)) (back w32 c.ranges.m) ∙ c.requires.1)

pub returns : goal.returns
returns c =
    c.edge_in_range.ensures
    ∙ ap (all c.args.plane.now c.args.side) (back w32 c.ranges.m)
    ∙ sym (ap (λ x. cond x (all c.args.plane.now c.args.side c.args.m) true) (not-false c.args.side.there c.if-not-side.false))
