-- `Terms::of` meets its contract. Assumes nothing.
use Rattle.std.proofs.Common.{rules, ℕ, ℤ, ◌≤◌}
use native.Mathlib.Omega.{arith}
use Rattle.colour_terms.proofs.Most.{middle-most}
use Rattle.colour_samples.specs.Depth.{OfDepth}
use Rattle.colour_samples.proofs.Ranges.{most-small}
use Rattle.colour_samples.proofs.sample.Terms.of.Goals as goal

middle-small : {D m : ℕ} {z t : ℤ} → OfDepth D z t m → m ≤ 4095
middle-small {D} o = omega (arith, o.middle-is, middle-most D o.least, most-small D o.largest)

pub square-requires : goal.square-requires
square-requires c = let o = c.args.depth.of_depth in (c.low-2.ensures.1, middle-small o, o.largest)

pub returns : goal.returns
returns c =
    (search rules, record { own = c.low.ensures.1; square = c.square.ensures.1; middle = middle-small c.args.depth.of_depth })
