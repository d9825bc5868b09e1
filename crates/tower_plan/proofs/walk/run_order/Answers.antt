-- `run_order` meets its contract: an empty order names no job. Assumes nothing.
use borrow.Author.Rules.{rules}
use mathlib.Core.Path.{◌≡◌, ◌∙◌}
use lib.ListN.{length}
use Rattle.tower_plan.proofs.Steps.{none_done, all_done}
use Rattle.tower_plan.proofs.walk.run_order.Goals as goal

pub returns-then-is_empty : goal.returns-then-is_empty
returns-then-is_empty c =
    let e : 0 ≡ length c.args.order.now = search rules in
    none_done c.args.width c.args.height c.args.differences.now c.args.plan.now c.args.order.now _
    ∙ all_done c.args.width c.args.height c.args.differences.now c.args.plan.now c.args.order.now _ 0 e
