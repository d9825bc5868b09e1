-- `run` meets its contract: what it does in the order given is what the plan's own order does. Assumes nothing.
use mathlib.Core.Path.{refl, sym, ◌∙◌}
use Rattle.refusals.proofs.Promise.{passes-on}
use Rattle.plan.specs.Run.{memory}
use Rattle.plan.proofs.Reorder.{rows-of, ran-in-order}
use Rattle.plan.proofs.run.Goals as goal

pub returns-in_err-refused : goal.returns-in_err-refused
returns-in_err-refused c = passes-on _ _ _ c.from_residual.ensures.1 c.in_err-refused.ensures

pub run_order-requires : goal.run_order-requires
run_order-requires c =
    rows-of _ _ c.args.differences.now _ _ (memory c.args.width c.args.height c.args.differences.now c.args.plane.now c.args.answers.now)
    (sym c.in_ok-refused.ensures)

pub returns : goal.returns
returns c =
    let g = ran-in-order _ _ c.args.differences.now c.args.plan.now c.args.order.now
    (memory c.args.width c.args.height c.args.differences.now c.args.plane.now c.args.answers.now) _ c.in_ok-refused.ensures refl in
    record { answers = g.answers; holds = c.run_order.ensures ∙ g.holds }
