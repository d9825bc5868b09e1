-- `is_placed` meets its contract: sides that are in range and lines that are too add up without wrapping. Assumes nothing.
use Rattle.std.proofs.Common.{rules}
use native.Mathlib.Omega.{arith}
use Rattle.colour_terms.proofs.Granted.{lines-all}
use Rattle.colour_rules.specs.Rules.{is_placed}
use Rattle.colour_rules.proofs.Granted.{side-all}
use Rattle.colour_rules.proofs.place.is_placed.Goals as goal

pub overflow_add-b : goal.overflow_add-b
overflow_add-b c = grind (arith, side-all, lines-all _ _ c.requires)

pub overflow_add-result : goal.overflow_add-result
overflow_add-result c = grind (arith, side-all, lines-all _ _ c.requires)

pub returns-then-b-le-STRIDE : goal.returns-then-b-le-STRIDE
unfolding is_placed
returns-then-b-le-STRIDE c = search rules

pub returns-else-b-le-STRIDE : goal.returns-else-b-le-STRIDE
unfolding is_placed
returns-else-b-le-STRIDE c = grind arith
