-- A run in an accepted order ends as the plan's own order does: the same plane and the same answers. Accepted is exact: by the samples that the jobs
-- read and write. Assumes nothing.
use mathlib.Core.Path.{◌≡◌, sym, ◌∙◌}
use mathlib.Core.List.{List}
use Prim.Native.Nat.{ℕ, ◌*◌, ◌%◌, ◌≤◌}
use native.Mathlib.Omega.{arith}
use lib.IntN.{ℤ}
use lib.ListN.{length}
use Rattle.refusals.proofs.Ladder.{all-kept}
use Rattle.refusals.proofs.Promise.{lent-done}
use Rattle.block_spec.proofs.Placed.{plane-is}
use Rattle.reorder.specs.Test.{Decides}
use Rattle.reorder.specs.Once.{Once}
use Rattle.reorder.specs.Order.{Kept, Accepted}
use Rattle.reorder.proofs.Once.{fresh-of-once}
use Rattle.reorder.proofs.Reorder.{reorder}
use Rattle.reorder.proofs.Check.{once-decides, kept-decides}
use Rattle.job.specs.Row.{row_at}
use Rattle.job_work.specs.Jobs.{jobs}
use Rattle.job_work.proofs.Clash.{clash-exact}
use Rattle.job_work.proofs.Laws.{job-laws}
use Rattle.order.specs.Rules.{jobs_in, is_once, is_kept}
use Rattle.run_rules.specs.Rules.{run_rules, run_answer}
use Rattle.plan.specs.Run.{Memory, in_order, plan_order, answer_for, Ran, Rows}
use Rattle.run_rules.proofs.Tests.{parts}
use Rattle.numbers.specs.Answer.{done, Answer}

module _ (W H : ℕ) (differences : List ℤ) (plan order : List ℕ) where
  -- rules 22 and 23 are exact
  pub once-exact : Decides (is_once plan order) (Once (jobs_in plan) order)
  unfolding is_once
  once-exact = once-decides (jobs_in plan) order

  pub kept-exact : Decides (is_kept W H (length differences) plan order) (Kept (jobs W H differences) (row_at plan) (jobs_in plan) order)
  unfolding is_kept
  kept-exact =
      kept-decides (jobs W H differences) (row_at plan) _ (jobs_in plan) (λ i j h k. clash-exact W H differences (row_at plan i) (row_at plan j)) order

  -- what a run that is not refused can count on
  pub record Ready (before : Memory W H differences) : Type 0 where
    pub samples : length before.pic ≡ W * H
    pub whole : length plan % 16 ≡ 0
    pub few : jobs_in plan ≤ 1024
    pub entries : length order ≡ jobs_in plan
    pub slots : length before.answers ≡ jobs_in plan
    pub accepted : Accepted (jobs W H differences) (row_at plan) (jobs_in plan) order

  pub ready : (before : Memory W H differences) → answer_for W H differences plan order before ≡ done → Ready before
  unfolding run_answer
  ready before e =
      let all = all-kept (run_rules W H (length before.pic) (length differences) plan order (length before.answers)) e in
      let p = parts plan order (length before.answers) all.1.0 in
      record {
        samples = (plane-is W H (length before.pic) all.0).2;
        whole = p.0;
        few = p.1;
        entries = p.2;
        slots = p.3;
        accepted = record { once = once-exact.0 all.1.1.0; kept = kept-exact.0 all.1.1.1.0 };
      }

  -- "A run that only ever works in plan order does not settle demand 3: its equality is shown of the definitions." (document 01, Reading strength).
  -- THE THEOREM. The order of a run that is not refused ends with the plane and the answers of the plan's own order.
  pub any_order : (before : Memory W H differences) → answer_for W H differences plan order before ≡ done
      → in_order W H differences plan order before ≡ in_order W H differences plan (plan_order plan) before
  any_order before e =
      let g = ready before e in
      reorder (jobs W H differences) (job-laws W H differences) (row_at plan) (jobs_in plan) order g.accepted before g.samples

  -- so a run that works in the order that it is given keeps the promise
  pub ran-in-order : (before : Memory W H differences) (r : Answer) → r ≡ answer_for W H differences plan order before → r ≡ done
      → Ran W H differences plan order before (in_order W H differences plan order before) r
  ran-in-order before r e d = record {
    answers = e;
    holds = any_order before (sym e ∙ d) ∙ lent-done (answer_for W H differences plan order before) _ before (sym e ∙ d);
  }

  -- and its rows can be done
  pub rows-of : (before : Memory W H differences) → answer_for W H differences plan order before ≡ done
      → Rows W H (length before.pic) plan order (length before.answers)
  unfolding run_answer
  rows-of before e =
      let g = ready before e in
      let f = fresh-of-once (jobs_in plan) order g.accepted.once in
      record {
        is-plane = (all-kept (run_rules W H (length before.pic) (length differences) plan order (length before.answers)) e).0;
        below = λ k h. let b = f.below k (omega (arith, g.entries)) in (omega (arith, b, g.whole), omega (arith, b, g.slots));
        few = omega (arith, g.few, g.slots);
      }
