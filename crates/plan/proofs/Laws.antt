-- Laws of a run's answer: an order is accepted exactly when it holds each job once and puts every clashing pair as the plan has it, and what 22 and
-- 23 say. Assumes nothing.
use mathlib.Core.Path.{◌≡◌, refl, ◌∙◌}
use mathlib.Core.Logic.{◌↔◌}
use mathlib.Core.Bool.{true, false}
use mathlib.Core.List.{List, []}
use Prim.Native.Nat.{ℕ, ◌+◌, ◌<◌}
use lib.IntN.{ℤ}
use lib.ListN.{length, get_or}
use Rattle.numbers.specs.declared.answer.Refusal.TheVariants.{NotEachOnce, PairTurned}
use Rattle.block_spec.specs.Rules.{is_plane}
use Rattle.refusals.proofs.Ladder.{all-kept}
use Rattle.reorder.specs.Once.{Once}
use Rattle.reorder.specs.Order.{Kept, Accepted, run, up_from}
use Rattle.reorder.specs.Swap.{swapped}
use Rattle.reorder.proofs.Test.{fails}
use Rattle.reorder.proofs.Own.{plan-accepted}
use Rattle.reorder.proofs.Swap.{length-swapped, swap-accepted}
use Rattle.job.specs.Row.{row_at}
use Rattle.touches.specs.Rects.{clash_of}
use Rattle.job_work.specs.Jobs.{jobs}
use Rattle.job_work.proofs.Clash.{clash-exact}
use Rattle.order.specs.Rules.{jobs_in, is_once, is_kept}
use Rattle.run_rules.proofs.Verdict.{verdict, verdict-22, verdict-23}
use Rattle.run_rules.specs.Rules.{is_plan, run_rules, run_answer}
use Rattle.plan.specs.Run.{Memory, in_order, plan_order, answer_for}
use Rattle.plan.proofs.Reorder.{once-exact, kept-exact, ready}
use Rattle.numbers.specs.Answer.{done}
use Rattle.std.specs.Prelude.{Err}

-- ---- which orders are accepted, and what 22 and 23 say

module _ (W H : ℕ) (differences : List ℤ) (plan order : List ℕ) (before : Memory W H differences)
    (plane : is_plane W H (length before.pic) ≡ true) (whole : is_plan plan (length order) (length before.answers) ≡ true) where
  by_tests : answer_for W H differences plan order before ≡ verdict (is_once plan order) (is_kept W H (length differences) plan order)
  unfolding run_answer
  by_tests = rw (plane, whole)

  pub accepted-exact : (answer_for W H differences plan order before ≡ done) ↔ Accepted (jobs W H differences) (row_at plan) (jobs_in plan) order
  accepted-exact = (
    λ e. (ready W H differences plan order before e).accepted,
    λ a. by_tests ∙ rw ((once-exact W H differences plan order).1 a.once, (kept-exact W H differences plan order).1 a.kept),
  )

  pub number-22 : (answer_for W H differences plan order before ≡ Err NotEachOnce) ↔ (¬ (Once (jobs_in plan) order))
  number-22 = rw by_tests (verdict-22 _ _ _ _ (once-exact W H differences plan order) (kept-exact W H differences plan order))

  pub number-23 : (answer_for W H differences plan order before ≡ Err PairTurned)
      ↔ (Once (jobs_in plan) order × ¬ (Kept (jobs W H differences) (row_at plan) (jobs_in plan) order))
  number-23 = rw by_tests (verdict-23 _ _ _ _ (once-exact W H differences plan order) (kept-exact W H differences plan order))

-- ---- orders that are always accepted

module _ (W H : ℕ) (differences : List ℤ) (plan : List ℕ) (before : Memory W H differences) where
  -- the plan's own
  pub own-accepted : is_plane W H (length before.pic) ≡ true → is_plan plan (length (plan_order plan)) (length before.answers) ≡ true
      → answer_for W H differences plan (plan_order plan) before ≡ done
  own-accepted plane whole =
      (accepted-exact W H differences plan (plan_order plan) before plane whole).1 (plan-accepted (jobs W H differences) (row_at plan) (jobs_in plan))

  -- one in which two neighbours that do not clash were exchanged
  pub exchanged-accepted : (order : List ℕ) (p : ℕ) → answer_for W H differences plan order before ≡ done → p + 1 < jobs_in plan
      → clash_of W H (length differences) (row_at plan (get_or order p 0)) (row_at plan (get_or order (p + 1) 0)) ≡ false
      → answer_for W H differences plan (swapped order p) before ≡ done
  unfolding run_answer
  exchanged-accepted order p e fits free =
      let all = all-kept (run_rules W H (length before.pic) (length differences) plan order (length before.answers)) e in
      (accepted-exact W H differences plan (swapped order p) before all.0 (rw length-swapped all.1.0)).1
      (swap-accepted (jobs W H differences) (row_at plan) (jobs_in plan) order p fits
      ((fails _ _ (clash-exact W H differences (row_at plan (get_or order p 0)) (row_at plan (get_or order (p + 1) 0)))).0 free)
      (ready W H differences plan order before e).accepted)

-- an empty plan is done, and changes nothing
pub empty-plan : (W H : ℕ) (differences : List ℤ) (before : Memory W H differences) → is_plane W H (length before.pic) ≡ true → before.answers ≡ []
    → (answer_for W H differences [] [] before ≡ done) × (in_order W H differences [] [] before ≡ before)
unfolding run up_from is_plan
empty-plan W H differences before plane none = (own-accepted W H differences [] before plane (rw none refl), refl)
