-- A plan whose order has one entry a job: how many jobs it has, refusal 22, and its own order. Assumes nothing.
use mathlib.Core.Path.{◌≡◌, ◌∙◌, sym}
use mathlib.Core.Bool.{true}
use mathlib.Core.List.{List}
use Prim.Native.Nat.{ℕ, ◌*◌}
use native.Mathlib.Omega.{arith}
use lib.ListN.{length}
use Rattle.reorder.specs.Check.{once_b}
use Rattle.each_once.specs.PlanOrder.{is_plan_order}
use Rattle.order.specs.Rules.{jobs_in, is_once, is_kept}
use Rattle.each_once.proofs.InPlace.{own-once, own-kept}

module _ (plan order : List ℕ) (whole : length plan ≡ 16 * length order) where
  pub jobs-in : jobs_in plan ≡ length order
  jobs-in = omega (arith, whole)

  pub once_is : once_b (length order) order ≡ is_once plan order
  unfolding is_once
  once_is = rw jobs-in

  -- the plan's own order is not refused
  pub own-is-once : is_plan_order order ≡ true → is_once plan order ≡ true
  own-is-once e = sym once_is ∙ own-once order e

  pub own-is-kept : is_plan_order order ≡ true → (W H n : ℕ) → is_kept W H n plan order ≡ true
  unfolding is_kept
  own-is-kept e W H n = rw jobs-in (own-kept order e _)
