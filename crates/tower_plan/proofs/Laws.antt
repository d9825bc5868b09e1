-- Laws of the answer to a tower's run: an order is accepted exactly when it holds each job once and puts every clashing pair as the plan has it, and what 22 and
-- 23 say. Assumes nothing.
use mathlib.Core.Path.{◌≡◌, refl, ◌∙◌}
use mathlib.Core.Logic.{◌↔◌}
use mathlib.Core.Bool.{true, false}
use mathlib.Core.List.{List, []}
use Prim.Native.Nat.{ℕ, ◌+◌, ◌<◌}
use lib.IntN.{ℤ}
use lib.ListN.{length, get_or}
use Rattle.numbers.specs.declared.answer.Refusal.TheVariants.{NotEachOnce, PairTurned}
use Rattle.run_rules.proofs.Verdict.{verdict, verdict-22, verdict-23}
use Rattle.refusals.proofs.Ladder.{all-kept}
use Rattle.reorder.specs.Once.{Once}
use Rattle.reorder.specs.Order.{Kept, Accepted, run, up_from}
use Rattle.reorder.specs.Swap.{swapped}
use Rattle.reorder.proofs.Test.{fails}
use Rattle.reorder.proofs.Own.{plan-accepted}
use Rattle.reorder.proofs.Swap.{length-swapped, swap-accepted}
use Rattle.tower_job.specs.Row.{tower_row}
use Rattle.tower_touches.specs.Rects.{tower_clash}
use Rattle.tower_work.specs.Jobs.{tower_jobs}
use Rattle.tower_work.proofs.Clash.{tower-clash-exact}
use Rattle.tower_order.specs.Rules.{tower_jobs_in, is_tower_once, is_tower_kept}
use Rattle.tower_rules.specs.Rules.{are_planes, is_tower_plan, tower_run_rules, tower_run_answer}
use Rattle.tower_plan.specs.Run.{TowerMemory, tower_in_order, tower_plan_order, tower_answer_for}
use Rattle.tower_plan.proofs.Reorder.{tower-once-exact, tower-kept-exact, ready}
use Rattle.numbers.specs.Answer.{done}
use Rattle.std.specs.Prelude.{Err}

-- ---- which orders are accepted, and what 22 and 23 say

module _ (W H : ℕ) (differences : List ℤ) (plan order : List ℕ) (before : TowerMemory W H differences)
    (planes : are_planes W H (length before.pic.p0) (length before.pic.p1) (length before.pic.p2) ≡ true) (whole : is_tower_plan plan (length order) (length before.answers) ≡ true) where
  by_tests : tower_answer_for W H differences plan order before ≡ verdict (is_tower_once plan order) (is_tower_kept W H (length differences) plan order)
  unfolding tower_run_answer
  by_tests = rw (planes, whole)

  pub accepted-exact : (tower_answer_for W H differences plan order before ≡ done) ↔ Accepted (tower_jobs W H differences) (tower_row plan) (tower_jobs_in plan) order
  accepted-exact = (
    λ e. (ready W H differences plan order before e).accepted,
    λ a. by_tests ∙ rw ((tower-once-exact W H differences plan order).1 a.once, (tower-kept-exact W H differences plan order).1 a.kept),
  )

  pub number-22 : (tower_answer_for W H differences plan order before ≡ Err NotEachOnce) ↔ (¬ (Once (tower_jobs_in plan) order))
  number-22 = rw by_tests (verdict-22 _ _ _ _ (tower-once-exact W H differences plan order) (tower-kept-exact W H differences plan order))

  pub number-23 : (tower_answer_for W H differences plan order before ≡ Err PairTurned)
      ↔ (Once (tower_jobs_in plan) order × ¬ (Kept (tower_jobs W H differences) (tower_row plan) (tower_jobs_in plan) order))
  number-23 = rw by_tests (verdict-23 _ _ _ _ (tower-once-exact W H differences plan order) (tower-kept-exact W H differences plan order))

-- ---- orders that are always accepted

module _ (W H : ℕ) (differences : List ℤ) (plan : List ℕ) (before : TowerMemory W H differences) where
  -- the plan's own
  pub own-accepted : are_planes W H (length before.pic.p0) (length before.pic.p1) (length before.pic.p2) ≡ true → is_tower_plan plan (length (tower_plan_order plan)) (length before.answers) ≡ true
      → tower_answer_for W H differences plan (tower_plan_order plan) before ≡ done
  own-accepted plane whole =
      (accepted-exact W H differences plan (tower_plan_order plan) before plane whole).1 (plan-accepted (tower_jobs W H differences) (tower_row plan) (tower_jobs_in plan))

  -- one in which two neighbours that do not clash were exchanged
  pub exchanged-accepted : (order : List ℕ) (p : ℕ) → tower_answer_for W H differences plan order before ≡ done → p + 1 < tower_jobs_in plan
      → tower_clash W H (length differences) (tower_row plan (get_or order p 0)) (tower_row plan (get_or order (p + 1) 0)) ≡ false
      → tower_answer_for W H differences plan (swapped order p) before ≡ done
  unfolding tower_run_answer
  exchanged-accepted order p e fits free =
      let all = all-kept (tower_run_rules W H (length before.pic.p0) (length before.pic.p1) (length before.pic.p2) (length differences) plan order (length before.answers)) e in
      (accepted-exact W H differences plan (swapped order p) before all.0 (rw length-swapped all.1.0)).1
      (swap-accepted (tower_jobs W H differences) (tower_row plan) (tower_jobs_in plan) order p fits
      ((fails _ _ (tower-clash-exact W H differences (tower_row plan (get_or order p 0)) (tower_row plan (get_or order (p + 1) 0)))).0 free)
      (ready W H differences plan order before e).accepted)

-- an empty plan is done, and changes nothing
pub empty-plan : (W H : ℕ) (differences : List ℤ) (before : TowerMemory W H differences) → are_planes W H (length before.pic.p0) (length before.pic.p1) (length before.pic.p2) ≡ true → before.answers ≡ []
    → (tower_answer_for W H differences [] [] before ≡ done) × (tower_in_order W H differences [] [] before ≡ before)
unfolding run up_from is_tower_plan
empty-plan W H differences before plane none = (own-accepted W H differences [] before plane (rw none refl), refl)
