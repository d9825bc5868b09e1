-- `left_spare` meets its contract: the corner's number, or the one next to the base. Assumes nothing.
use borrow.Author.Rules.{rules}
use mathlib.Core.Path.{sym, ◌∙◌, ap}
use mathlib.Core.Bool.{cond}
use Prim.Native.Nat.{◌^◌, ◌<◌}
use lib.IntN.{pos, ◌+ℤ◌}
use mir.Syntax.{w32}
use Rattle.signed.proofs.Bound.{back}
use Rattle.sides.proofs.Words.{one-more-fits, one-more-is}
use Rattle.sides.proofs.left_spare.Goals as goal

-- the base is a 16-bit word
small : (c : goal.After-struct_known-1) → c.args.s.base < 2 ^ 16
small c = search rules

pub overflow_add-result : goal.overflow_add-result
overflow_add-result c = one-more-fits c.args.s.base (small c)

pub returns-then-s : goal.returns-then-s
returns-then-s c =
    let s = c.args.s in
    back w32 c.ranges.corner ∙ sym (ap (λ x. cond x c.args.corner (pos s.base +ℤ pos 1)) c.if-s.true)

pub returns-else-s : goal.returns-else-s
returns-else-s c =
    let s = c.args.s in
    one-more-is s.base (small c) ∙ sym (ap (λ x. cond x c.args.corner (pos s.base +ℤ pos 1)) c.if-s.false)
