-- `run_rows` meets its contract. Assumes nothing.
use borrow.Author.Rules.{rules}
use Prim.Native.Nat.{ℕ, ◌+◌, ◌-◌, ◌*◌}
use mathlib.Core.List.{List}
use native.Mathlib.Omega.{arith}
use mathlib.Core.Path.{◌≡◌, refl, ◌∙◌, ap}
use lib.ListN.{length, get_or, take, drop, length-set}
use Rattle.job_work.proofs.Laws.{keeps}
use Rattle.plan.proofs.Steps.{none_done, one_more}
use Rattle.job.specs.Row.{row_at}
use Rattle.plan.proofs.walk.run_rows.Goals as goal

row_is : (plan : List ℕ) (i : ℕ) → take (16 * i + 16 - 16 * i) (drop (16 * i) plan) ≡ row_at plan i
row_is plan i = let e : 16 * i + 16 - 16 * i ≡ 16 = omega arith in ap (λ n. take n (drop (16 * i) plan)) e

pub loop-entry-init : goal.loop-entry-init
loop-entry-init c =
    (refl, refl, none_done c.args.width c.args.height c.args.differences.now c.args.plan.now c.args.order.now _, c.requires.above_len.0, c.requires.above_len.1, c.requires.above_len.2)

pub loop-entry-preserved : goal.loop-entry-preserved
loop-entry-preserved c =
    let d = c.do_job-answer.ensures in
    let v = c.loop-entry.invariant in (
      ap length d.holds ∙ keeps c.args.width c.args.height c.args.differences.now _ c.loop-entry.plane ∙ v.0,
      simp length-set v.1,
      one_more c.args.width c.args.height c.args.differences.now c.args.plan.now c.args.order.now _ c.loop-entry.plane _ c.loop-entry.answers c.loop-entry.entry-index _ _ _
          c.loop-entry-test.true v.2 (row_is c.args.plan.now (get_or c.args.order.now c.loop-entry.entry-index 0)) d c.number.ensures,
      search rules,
      search rules,
      search rules,
    )
