-- `limit` meets its contract. Assumes nothing.
use mathlib.Core.Path.{sym, ap, ◌∙◌, subst}
use Prim.Native.Nat.{ℕ, ◌-◌, ◌^◌, ◌≤◌, ◌<◌}
use native.Mathlib.Omega.{arith}
use mir.Syntax.{w32}
use Rattle.signed.proofs.Bound.{back}
use Rattle.fixed_product.proofs.Rounding.{one_shl}
use Rattle.fixed_product.proofs.Short.{limit-few, limit-none}
use Rattle.fixed_product.proofs.product.limit.Goals as goal

pub returns-then-n-le28 : goal.returns-then-n-le28
returns-then-n-le28 c =
    let n = c.digits-n.result in
    let e = simp (back w32 c.ranges.a) at c.digits-n.ensures.0 in
    one_shl (29 - n) (omega arith) ∙ ap (λ (i : ℕ). 2 ^ (29 - i)) e ∙
    sym (limit-few c.args.a (subst (λ (i : ℕ). i ≤ 28) e c.if-n-le28.true))

pub returns-else-n-le28 : goal.returns-else-n-le28
returns-else-n-le28 c =
    sym (limit-none c.args.a (subst (λ (i : ℕ). 28 < i) (simp (back w32 c.ranges.a) at c.digits-n.ensures.0) c.if-n-le28.false))
