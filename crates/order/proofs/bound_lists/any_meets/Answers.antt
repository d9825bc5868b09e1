-- `any_meets` meets its contract: the hit is that of the rows from `from` up to j. Assumes nothing.
use native.Mathlib.Omega.{arith}
use mathlib.Core.Path.{◌≡◌, sym, ◌∙◌, ap}
use mathlib.Core.Bool.{◌||◌}
use Prim.Native.Nat.{suc, ◌+◌, ◌-◌}
use Rattle.order.specs.Sides.{met, any_met}
use Rattle.order.proofs.bound_lists.any_meets.Goals as goal

pub loop-j-init : goal.loop-j-init
unfolding any_met
loop-j-init c =
    let none : c.args.from - c.args.from ≡ 0 = omega arith in
    (omega arith, omega arith, sym (ap (any_met c.args.lists.now c.args.s c.args.from) none))

pub meets_at-here-requires : goal.meets_at-here-requires
meets_at-here-requires c = (c.requires.0, omega arith)

pub overflow_add-j : goal.overflow_add-j
overflow_add-j c = omega arith

pub loop-j-smaller : goal.loop-j-smaller
loop-j-smaller c = omega arith

pub loop-j-preserved : goal.loop-j-preserved
unfolding any_met
loop-j-preserved c =
    let k = c.loop-j in
    let from = c.args.from in
    let one : suc (k.j - from) ≡ k.j + 1 - from = omega arith in
    let here : k.j ≡ from + (k.j - from) = omega arith in (
      omega arith,
      omega arith,
      (λ i. k.invariant.2 i || (c.meets_at-here.ensures ∙ ap (λ m. met c.args.lists.now m c.args.s) here) i) ∙ ap (any_met c.args.lists.now c.args.s from) one,
    )

pub returns : goal.returns
returns c =
    let end : c.loop-j.j - c.args.from ≡ c.args.to - c.args.from = omega arith in
    c.loop-j.invariant.2 ∙ ap (any_met c.args.lists.now c.args.s c.args.from) end
