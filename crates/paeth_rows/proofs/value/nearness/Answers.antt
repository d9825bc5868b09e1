-- `nearness` meets its contract. Assumes nothing.
use native.Mathlib.Omega.{arith}
use mathlib.Core.Path.{◌∙◌, ap}
use mir.Facts.{to_z-of_z}
use mir.Syntax.{w32}
use lib.IntN.{pos, neg_ℤ, ◌-ℤ◌}
use Rattle.signed.proofs.Bound.{abs-sub, abs-swap, sub-down, sfits-abs}
use Rattle.signed.proofs.Order.{le_of_lt, le_of_not_lt}
use Rattle.paeth_rows.proofs.value.nearness.Goals as goal

pub overflow_sub-result : goal.overflow_sub-result
overflow_sub-result c =
    let s = c.before in
    let fa = s.ranges.a in
    let fb = s.ranges.b in
    simp to_z-of_z (sfits-abs w32 (s.args.b -ℤ s.args.a) (omega (arith, abs-sub s.args.b s.args.a)))

pub overflow_sub-result-else-a-b : goal.overflow_sub-result-else-a-b
overflow_sub-result-else-a-b c =
    let s = c.before in
    let fa = s.ranges.a in
    let fb = s.ranges.b in
    simp to_z-of_z (sfits-abs w32 (s.args.a -ℤ s.args.b) (omega (arith, abs-sub s.args.a s.args.b)))

pub returns-then-a-b : goal.returns-then-a-b
returns-then-a-b c =
    let s = c.before in
    let fa = s.ranges.a in
    let fb = s.ranges.b in
    let fd = sfits-abs w32 (s.args.b -ℤ s.args.a) (omega (arith, abs-sub s.args.b s.args.a)) in
    simp to_z-of_z
    (sub-down s.args.b s.args.a (le_of_lt s.args.b s.args.a (simp to_z-of_z at c.if-a-b.true))
    ∙ ap (λ n. neg_ℤ (pos n)) (abs-swap s.args.b s.args.a))

pub returns-else-a-b : goal.returns-else-a-b
returns-else-a-b c =
    let s = c.before in
    let fa = s.ranges.a in
    let fb = s.ranges.b in
    let fd = sfits-abs w32 (s.args.a -ℤ s.args.b) (omega (arith, abs-sub s.args.a s.args.b)) in
    simp to_z-of_z (sub-down s.args.a s.args.b (le_of_not_lt s.args.b s.args.a (simp to_z-of_z at c.if-a-b.false)))
