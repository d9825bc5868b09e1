-- `run` meets its contract: what it does in the order given is what the plan's own order does. Assumes nothing.
use mathlib.Core.Path.{refl, sym, ◌∙◌}
use Rattle.refusals.proofs.Promise.{passes-on}
use Rattle.tower_work.specs.Granted.{three}
use Rattle.tower_plan.specs.Run.{TowerMemory, tower_memory}
use Rattle.tower_plan.proofs.Reorder.{tower-rows-of, tower-ran-in-order}
use Rattle.tower_plan.proofs.run.Goals as goal

pub returns-in_err-refused : goal.returns-in_err-refused
returns-in_err-refused c = passes-on _ _ _ c.from_residual.ensures.1 c.in_err-refused.ensures

-- a run that is not refused
pub run_order-requires : goal.run_order-requires
run_order-requires c =
    let a = c.args in
    let before : TowerMemory a.width a.height a.differences.now = tower_memory a.width a.height a.differences.now (three a.p0.now a.p1.now a.p2.now) a.answers.now in
    tower-rows-of _ _ a.differences.now _ _ before (sym c.in_ok-refused.ensures)

pub returns : goal.returns
returns c =
    let a = c.args in
    let before : TowerMemory a.width a.height a.differences.now = tower_memory a.width a.height a.differences.now (three a.p0.now a.p1.now a.p2.now) a.answers.now in
    let g = tower-ran-in-order _ _ a.differences.now a.plan.now a.order.now before _ c.in_ok-refused.ensures refl in
    record { answers = g.answers; holds = c.run_order.ensures ∙ g.holds }
