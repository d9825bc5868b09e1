-- A tower's plan whose order has one entry a job: how many jobs it has, refusal 22, and its own order. Assumes nothing.
use mathlib.Core.Path.{◌≡◌, ◌∙◌, sym}
use mathlib.Core.Bool.{true}
use mathlib.Core.List.{List}
use Prim.Native.Nat.{ℕ, ◌*◌}
use native.Mathlib.Omega.{arith}
use lib.ListN.{length}
use Rattle.reorder.specs.Check.{once_b}
use Rattle.each_once.specs.PlanOrder.{is_plan_order}
use Rattle.each_once.proofs.InPlace.{own-once, own-kept}
use Rattle.tower_order.specs.Rules.{tower_jobs_in, is_tower_once, is_tower_kept}

module _ (plan order : List ℕ) (whole : length plan ≡ 32 * length order) where
  pub tower-jobs-in : tower_jobs_in plan ≡ length order
  tower-jobs-in = omega (arith, whole)

  pub tower-once-is : once_b (length order) order ≡ is_tower_once plan order
  unfolding is_tower_once
  tower-once-is = rw tower-jobs-in

  -- the plan's own order is not refused
  pub own-is-tower-once : is_plan_order order ≡ true → is_tower_once plan order ≡ true
  own-is-tower-once e = sym tower-once-is ∙ own-once order e

  pub own-is-tower-kept : is_plan_order order ≡ true → (W H n : ℕ) → is_tower_kept W H n plan order ≡ true
  unfolding is_tower_kept
  own-is-tower-kept e W H n = rw tower-jobs-in (own-kept order e _)
