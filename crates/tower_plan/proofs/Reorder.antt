-- A tower's run in an accepted order ends as the plan's own order does: the same planes and the same answers. Accepted is exact: by the samples that the jobs
-- read and write. Assumes nothing.
use mathlib.Core.Path.{◌≡◌, sym, ◌∙◌}
use mathlib.Core.List.{List}
use Prim.Native.Nat.{ℕ, ◌*◌, ◌%◌, ◌≤◌}
use native.Mathlib.Omega.{arith}
use lib.IntN.{ℤ}
use lib.ListN.{length}
use Rattle.refusals.proofs.Ladder.{all-kept}
use Rattle.refusals.proofs.Promise.{lent-done}
use Rattle.block_spec.proofs.Placed.{plane-is}
use Rattle.reorder.specs.Test.{Decides}
use Rattle.reorder.specs.Once.{Once}
use Rattle.reorder.specs.Order.{Kept, Accepted}
use Rattle.reorder.proofs.Once.{fresh-of-once}
use Rattle.reorder.proofs.Reorder.{reorder}
use Rattle.reorder.proofs.Check.{once-decides, kept-decides}
use Rattle.tower_job.specs.Row.{tower_row}
use Rattle.planes.specs.Three.{Sized}
use Rattle.tower_work.specs.Jobs.{tower_jobs}
use Rattle.tower_work.specs.Granted.{ArePlanes}
use Rattle.tower_work.proofs.Clash.{tower-clash-exact}
use Rattle.tower_work.proofs.Laws.{tower-laws}
use Rattle.tower_order.specs.Rules.{tower_jobs_in, is_tower_once, is_tower_kept}
use Rattle.tower_rules.specs.Rules.{tower_run_rules, tower_run_answer}
use Rattle.tower_plan.specs.Run.{TowerMemory, tower_in_order, tower_plan_order, tower_answer_for, TowerRan, TowerRows}
use Rattle.tower_rules.proofs.Tests.{planes-of, parts}
use Rattle.numbers.specs.Answer.{done, Answer}

module _ (W H : ℕ) (differences : List ℤ) (plan order : List ℕ) where
  -- rules 22 and 23 are exact
  pub tower-once-exact : Decides (is_tower_once plan order) (Once (tower_jobs_in plan) order)
  unfolding is_tower_once
  tower-once-exact = once-decides (tower_jobs_in plan) order

  pub tower-kept-exact : Decides (is_tower_kept W H (length differences) plan order) (Kept (tower_jobs W H differences) (tower_row plan) (tower_jobs_in plan) order)
  unfolding is_tower_kept
  tower-kept-exact =
      kept-decides (tower_jobs W H differences) (tower_row plan) _ (tower_jobs_in plan) (λ i j h k. tower-clash-exact W H differences (tower_row plan i) (tower_row plan j)) order

  -- what a run that is not refused can count on
  pub record Ready (before : TowerMemory W H differences) : Type 0 where
    pub samples : Sized (W * H) before.pic
    pub planes : ArePlanes W H before.pic.p0 before.pic.p1 before.pic.p2
    pub whole : length plan % 32 ≡ 0
    pub few : tower_jobs_in plan ≤ 1024
    pub entries : length order ≡ tower_jobs_in plan
    pub slots : length before.answers ≡ tower_jobs_in plan
    pub accepted : Accepted (tower_jobs W H differences) (tower_row plan) (tower_jobs_in plan) order

  pub ready : (before : TowerMemory W H differences) → tower_answer_for W H differences plan order before ≡ done → Ready before
  unfolding tower_run_answer
  ready before e =
      let all = all-kept (tower_run_rules W H (length before.pic.p0) (length before.pic.p1) (length before.pic.p2) (length differences) plan order (length before.answers)) e in
      let p = parts plan order (length before.answers) all.1.0 in
      let q = planes-of W H (length before.pic.p0) (length before.pic.p1) (length before.pic.p2) all.0 in
      record {
        samples = record {
          l0 = (plane-is W H (length before.pic.p0) q.0).2;
          l1 = (plane-is W H (length before.pic.p1) q.1).2;
          l2 = (plane-is W H (length before.pic.p2) q.2).2;
        };
        planes = record { first = q.0; second = q.1; third = q.2 };
        whole = p.0;
        few = p.1;
        entries = p.2;
        slots = p.3;
        accepted = record { once = tower-once-exact.0 all.1.1.0; kept = tower-kept-exact.0 all.1.1.1.0 };
      }

  -- "A run that only ever works in plan order does not settle demand 3: its equality is shown of the definitions." (document 01, Reading strength).
  -- THE THEOREM. The order of a run that is not refused ends with the planes and the answers of the plan's own order.
  pub tower-any-order : (before : TowerMemory W H differences) → tower_answer_for W H differences plan order before ≡ done
      → tower_in_order W H differences plan order before ≡ tower_in_order W H differences plan (tower_plan_order plan) before
  tower-any-order before e =
      let g = ready before e in
      reorder (tower_jobs W H differences) (tower-laws W H differences) (tower_row plan) (tower_jobs_in plan) order g.accepted before g.samples

  -- so a run that works in the order that it is given keeps the promise
  pub tower-ran-in-order : (before : TowerMemory W H differences) (r : Answer) → r ≡ tower_answer_for W H differences plan order before → r ≡ done
      → TowerRan W H differences plan order before (tower_in_order W H differences plan order before) r
  tower-ran-in-order before r e d = record {
    answers = e;
    holds = tower-any-order before (sym e ∙ d) ∙ lent-done (tower_answer_for W H differences plan order before) _ before (sym e ∙ d);
  }

  -- and its rows can be done
  pub tower-rows-of : (before : TowerMemory W H differences) → tower_answer_for W H differences plan order before ≡ done
      → TowerRows W H before.pic plan order (length before.answers)
  tower-rows-of before e =
      let g = ready before e in
      let f = fresh-of-once (tower_jobs_in plan) order g.accepted.once in
      record {
        are-planes = g.planes;
        below = λ k h. let b = f.below k (omega (arith, g.entries)) in (omega (arith, b, g.whole), omega (arith, b, g.slots));
        few = omega (arith, g.few, g.slots);
      }
