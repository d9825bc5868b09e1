-- `refused` meets its contract: each test is the ladder's, in its order, and the plan's own order passes the last two. Assumes nothing.
use mathlib.Core.Path.{◌≡◌, refl, sym, ◌∙◌}
use mathlib.Core.Bool.{true}
use mathlib.Core.List.{List}
use Prim.Native.Nat.{ℕ}
use lib.ListN.{length, drop}
use Rattle.refusals.specs.Ladder.{Rule, ladder}
use Rattle.block_spec.specs.Rules.{is_plane}
use Rattle.reorder.specs.Check.{once_b}
use Rattle.each_once.specs.PlanOrder.{is_plan_order}
use Rattle.run_rules.specs.Rules.{is_plan, run_rules, run_answer}
use Rattle.refusals.proofs.Ladder.{kept, broken}
use Rattle.order.proofs.Entries.{once_is, own-is-once, own-is-kept}
use Rattle.block_spec.proofs.Placed.{plane-is}
use Rattle.run_rules.proofs.Tests.{few, whole, walk}
use Rattle.run_rules.proofs.refused.Goals as goal

module _ (W H samples n : ℕ) (plan order : List ℕ) (answers : ℕ) where
  abbrev all : List Rule
  all = run_rules W H samples n plan order answers

  -- k of the rules are kept
  abbrev After : ℕ → Type 0
  After k = ladder all ≡ ladder (drop k all)

  none : After 0
  none = refl

  module _ (plane : is_plane W H samples ≡ true) where
    one : After 1
    one = kept _ _ _ _ plane none

    module _ (rows : is_plan plan (length order) answers ≡ true) where
      two : After 2
      two = kept _ _ _ _ rows one

      -- the order holds each job's index once
      three : once_b (length order) order ≡ true → After 3
      three holds = kept _ _ _ _ (sym (once_is _ _ (whole plan order answers rows)) ∙ holds) two

pub returns-then-not-is_plane : goal.returns-then-not-is_plane
unfolding run_answer
returns-then-not-is_plane c =
    broken _ _ _ _ (sym c.is_plane.ensures ∙ c.if-not-is_plane.true) (none c.args.width c.args.height c.args.samples c.args.n c.args.plan.now c.args.order.now c.args.answers)

pub returns-then-not-is_plan : goal.returns-then-not-is_plan
unfolding run_answer
returns-then-not-is_plan c =
    broken _ _ _ _ (sym c.is_plan.ensures ∙ c.if-not-is_plan.true) (one c.args.width c.args.height c.args.samples c.args.n c.args.plan.now c.args.order.now c.args.answers (sym c.is_plane.ensures ∙ c.if-not-is_plane.false))

pub returns-then-is_plan_order : goal.returns-then-is_plan_order
unfolding run_answer
returns-then-is_plan_order c =
    let rows : is_plan c.args.plan.now (length c.args.order.now) c.args.answers ≡ true = sym c.is_plan.ensures ∙ c.if-not-is_plan.false in
    let long = whole c.args.plan.now c.args.order.now c.args.answers rows in
    let own : is_plan_order c.args.order.now ≡ true = sym c.is_plan_order.ensures ∙ c.if-is_plan_order.true in
    sym (kept _ _ _ _ (own-is-kept _ _ long own _ _ _) (kept _ _ _ _ (own-is-once _ _ long own) (two c.args.width c.args.height c.args.samples c.args.n c.args.plan.now c.args.order.now c.args.answers (sym c.is_plane.ensures ∙ c.if-not-is_plane.false) rows)))

pub once-requires : goal.once-requires
once-requires c = few c.args.plan.now c.args.order.now c.args.answers (sym c.is_plan.ensures ∙ c.if-not-is_plan.false)

pub returns-then-not-once : goal.returns-then-not-once
unfolding run_answer
returns-then-not-once c =
    let rows : is_plan c.args.plan.now (length c.args.order.now) c.args.answers ≡ true = sym c.is_plan.ensures ∙ c.if-not-is_plan.false in
    let long = whole c.args.plan.now c.args.order.now c.args.answers rows in
    broken _ _ _ _ (sym (once_is _ _ long) ∙ sym c.once.ensures ∙ c.if-not-once.true) (two c.args.width c.args.height c.args.samples c.args.n c.args.plan.now c.args.order.now c.args.answers (sym c.is_plane.ensures ∙ c.if-not-is_plane.false) rows)

pub kept-requires : goal.kept-requires
kept-requires c =
    let p = plane-is _ _ _ (sym c.is_plane.ensures ∙ c.if-not-is_plane.false) in
    walk c.args.plan.now c.args.order.now c.args.answers (sym c.is_plan.ensures ∙ c.if-not-is_plan.false) _ _ (p.0, p.1) (sym c.once.ensures ∙ c.if-not-once.false)

pub returns-then-not-kept : goal.returns-then-not-kept
unfolding run_answer
returns-then-not-kept c =
    broken _ _ _ _ (sym c.kept.ensures ∙ c.if-not-kept.true) (three c.args.width c.args.height c.args.samples c.args.n c.args.plan.now c.args.order.now c.args.answers (sym c.is_plane.ensures ∙ c.if-not-is_plane.false) (sym c.is_plan.ensures ∙ c.if-not-is_plan.false) (sym c.once.ensures ∙ c.if-not-once.false))

pub returns : goal.returns
unfolding run_answer
returns c =
    sym (kept _ _ _ _ (sym c.kept.ensures ∙ c.if-not-kept.false) (three c.args.width c.args.height c.args.samples c.args.n c.args.plan.now c.args.order.now c.args.answers (sym c.is_plane.ensures ∙ c.if-not-is_plane.false) (sym c.is_plan.ensures ∙ c.if-not-is_plan.false) (sym c.once.ensures ∙ c.if-not-once.false)))
