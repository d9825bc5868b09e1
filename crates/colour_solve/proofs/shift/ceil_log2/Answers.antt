-- `ceil_log2` meets its contract. Assumes nothing.
use mathlib.Core.Path.{sym, ◌∙◌, ap}
use Prim.Native.Nat.{◌+◌, ◌-◌}
use native.Mathlib.Omega.{arith}
use Rattle.fixed_product.proofs.Shift.{ilog2-le}
use Rattle.colour_solve.proofs.Reach.{ceil-few, ceil-more}
use Rattle.colour_solve.proofs.shift.ceil_log2.Goals as goal

pub returns-then-n-lt2 : goal.returns-then-n-lt2
returns-then-n-lt2 c = (sym (ceil-few _ c.if-n-lt2.true), omega arith)

pub overflow_add-result : goal.overflow_add-result
overflow_add-result c = omega (arith, c.ilog2.ensures, ilog2-le (c.args.n - 1))

pub returns : goal.returns
returns c =
    let n = c.args.n in
    (ap (λ k. k + 1) c.ilog2.ensures ∙ sym (ceil-more n c.if-n-lt2.false), omega (arith, c.ilog2.ensures, ilog2-le (n - 1)))
