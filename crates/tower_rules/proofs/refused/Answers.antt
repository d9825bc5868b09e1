-- `refused` meets its contract: each test is the ladder's, in its order, and the plan's own order passes the last two. Assumes nothing.
use mathlib.Core.Path.{◌≡◌, refl, sym, ◌∙◌}
use mathlib.Core.Bool.{true}
use mathlib.Core.List.{List}
use Prim.Native.Nat.{ℕ}
use lib.ListN.{length, drop}
use Rattle.refusals.specs.Ladder.{Rule, ladder}
use Rattle.reorder.specs.Check.{once_b}
use Rattle.each_once.specs.PlanOrder.{is_plan_order}
use Rattle.tower_rules.specs.Rules.{are_planes, is_tower_plan, tower_run_rules, tower_run_answer}
use Rattle.refusals.proofs.Ladder.{kept, broken}
use Rattle.tower_order.proofs.Entries.{tower-once-is, own-is-tower-once, own-is-tower-kept}
use Rattle.tower_rules.proofs.Tests.{sides-of, few, whole, walk}
use Rattle.tower_rules.proofs.refused.Goals as goal

module _ (W H n0 n1 n2 n : ℕ) (plan order : List ℕ) (answers : ℕ) where
  abbrev run_rules : List Rule
  run_rules = tower_run_rules W H n0 n1 n2 n plan order answers

  -- so many of the rules are kept
  abbrev After : ℕ → Type 0
  After k = ladder run_rules ≡ ladder (drop k run_rules)

  module _ (plane : are_planes W H n0 n1 n2 ≡ true) where
    one : After 1
    one = kept _ _ _ _ plane refl

    module _ (rows : is_tower_plan plan (length order) answers ≡ true) where
      two : After 2
      two = kept _ _ _ _ rows one

      -- the order holds each job's index once
      three : once_b (length order) order ≡ true → After 3
      three holds = kept _ _ _ _ (sym (tower-once-is _ _ (whole plan order answers rows)) ∙ holds) two

pub returns-then-not-are_planes : goal.returns-then-not-are_planes
unfolding tower_run_answer
returns-then-not-are_planes c = broken _ _ _ _ (sym c.are_planes.ensures ∙ c.if-not-are_planes.true) refl

pub returns-then-not-is_plan : goal.returns-then-not-is_plan
unfolding tower_run_answer
returns-then-not-is_plan c =
    let a = c.args in
    let plane : are_planes a.width a.height a.n0 a.n1 a.n2 ≡ true = sym c.are_planes.ensures ∙ c.if-not-are_planes.false in
    broken _ _ _ _ (sym c.is_plan.ensures ∙ c.if-not-is_plan.true) (one a.width a.height a.n0 a.n1 a.n2 a.n a.plan.now a.order.now a.answers plane)

pub returns-then-is_plan_order : goal.returns-then-is_plan_order
unfolding tower_run_answer
returns-then-is_plan_order c =
    let a = c.args in
    let plane : are_planes a.width a.height a.n0 a.n1 a.n2 ≡ true = sym c.are_planes.ensures ∙ c.if-not-are_planes.false in
    let rows : is_tower_plan a.plan.now (length a.order.now) a.answers ≡ true = sym c.is_plan.ensures ∙ c.if-not-is_plan.false in
    let long = whole a.plan.now a.order.now a.answers rows in
    let own : is_plan_order a.order.now ≡ true = sym c.is_plan_order.ensures ∙ c.if-is_plan_order.true in
    sym (kept _ _ _ _ (own-is-tower-kept _ _ long own _ _ _) (kept _ _ _ _ (own-is-tower-once _ _ long own) (two a.width a.height a.n0 a.n1 a.n2 a.n a.plan.now a.order.now a.answers plane rows)))

pub once-requires : goal.once-requires
once-requires c = few c.args.plan.now c.args.order.now c.args.answers (sym c.is_plan.ensures ∙ c.if-not-is_plan.false)

pub returns-then-not-once : goal.returns-then-not-once
unfolding tower_run_answer
returns-then-not-once c =
    let a = c.args in
    let plane : are_planes a.width a.height a.n0 a.n1 a.n2 ≡ true = sym c.are_planes.ensures ∙ c.if-not-are_planes.false in
    let rows : is_tower_plan a.plan.now (length a.order.now) a.answers ≡ true = sym c.is_plan.ensures ∙ c.if-not-is_plan.false in
    let long = whole a.plan.now a.order.now a.answers rows in
    broken _ _ _ _ (sym (tower-once-is _ _ long) ∙ sym c.once.ensures ∙ c.if-not-once.true) (two a.width a.height a.n0 a.n1 a.n2 a.n a.plan.now a.order.now a.answers plane rows)

pub kept-requires : goal.kept-requires
kept-requires c =
    let a = c.args in
    let plane : are_planes a.width a.height a.n0 a.n1 a.n2 ≡ true = sym c.are_planes.ensures ∙ c.if-not-are_planes.false in
    let rows : is_tower_plan a.plan.now (length a.order.now) a.answers ≡ true = sym c.is_plan.ensures ∙ c.if-not-is_plan.false in
    let long = whole a.plan.now a.order.now a.answers rows in
    let holds : once_b (length a.order.now) a.order.now ≡ true = sym c.once.ensures ∙ c.if-not-once.false in
    walk a.plan.now a.order.now a.answers rows _ _ (sides-of _ _ _ _ _ plane) holds

pub returns-then-not-kept : goal.returns-then-not-kept
unfolding tower_run_answer
returns-then-not-kept c =
    let a = c.args in
    let plane : are_planes a.width a.height a.n0 a.n1 a.n2 ≡ true = sym c.are_planes.ensures ∙ c.if-not-are_planes.false in
    let rows : is_tower_plan a.plan.now (length a.order.now) a.answers ≡ true = sym c.is_plan.ensures ∙ c.if-not-is_plan.false in
    let long = whole a.plan.now a.order.now a.answers rows in
    let holds : once_b (length a.order.now) a.order.now ≡ true = sym c.once.ensures ∙ c.if-not-once.false in
    broken _ _ _ _ (sym c.kept.ensures ∙ c.if-not-kept.true) (three a.width a.height a.n0 a.n1 a.n2 a.n a.plan.now a.order.now a.answers plane rows holds)

pub returns : goal.returns
unfolding tower_run_answer
returns c =
    let a = c.args in
    let plane : are_planes a.width a.height a.n0 a.n1 a.n2 ≡ true = sym c.are_planes.ensures ∙ c.if-not-are_planes.false in
    let rows : is_tower_plan a.plan.now (length a.order.now) a.answers ≡ true = sym c.is_plan.ensures ∙ c.if-not-is_plan.false in
    let long = whole a.plan.now a.order.now a.answers rows in
    let holds : once_b (length a.order.now) a.order.now ≡ true = sym c.once.ensures ∙ c.if-not-once.false in
    sym (kept _ _ _ _ (sym c.kept.ensures ∙ c.if-not-kept.false) (three a.width a.height a.n0 a.n1 a.n2 a.n a.plan.now a.order.now a.answers plane rows holds))
