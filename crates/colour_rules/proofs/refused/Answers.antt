-- `refused` meets its contract: each test is the ladder's, in its order. Assumes nothing.
use borrow.Author.Tests.{lt-leb, le-leb}
use mathlib.Core.Path.{sym, ◌∙◌}
use native.Mathlib.Nat.{mul-le-mul}
use native.Mathlib.Omega.{arith}
use lib.ListN.{length}
use Rattle.std.proofs.lemmas.Grind.{common_steps}
use Rattle.numbers.proofs.Agree.{depth-yes, depth-else}
use Rattle.numbers.proofs.Colours.{colour-yes, colour-else}
use Rattle.numbers.proofs.Look.{passed_on}
use Rattle.colour_rules.specs.Rules.{predict_answer}
use Rattle.colour_rules.proofs.Granted.{placed}
use Rattle.colour_rules.proofs.refused.Goals as goal

pub returns-in_err-depth : goal.returns-in_err-depth
unfolding predict_answer
returns-in_err-depth c = passed_on _ c.from_residual.ensures.1 ∙ depth-else _ _ c.in_err-depth.ensures

pub returns-in_err-try_from : goal.returns-in_err-try_from
unfolding predict_answer
returns-in_err-try_from c =
    rw (depth-yes c.args.b.d _ (sym c.in_ok-depth.ensures))
    (passed_on _ c.from_residual-in_err-try_from.ensures.1 ∙ colour-else _ _ c.in_err-try_from.ensures)

pub returns-then-not-is_reference : goal.returns-then-not-is_reference
unfolding predict_answer
returns-then-not-is_reference c =
    simp (
      depth-yes c.args.b.d _ (sym c.in_ok-depth.ensures),
      colour-yes c.args.b.direction _ (sym c.in_ok-try_from.ensures),
      sym c.is_reference.ensures ∙ c.if-not-is_reference.true,
    )

pub returns-then-not-is_lines : goal.returns-then-not-is_lines
unfolding predict_answer
returns-then-not-is_lines c =
    simp (
      depth-yes c.args.b.d _ (sym c.in_ok-depth.ensures),
      colour-yes c.args.b.direction _ (sym c.in_ok-try_from.ensures),
      sym c.is_reference.ensures ∙ c.if-not-is_reference.false,
      sym c.is_lines.ensures ∙ c.if-not-is_lines.true,
    )

pub is_placed-requires : goal.is_placed-requires
is_placed-requires c = sym c.is_lines.ensures ∙ c.if-not-is_lines.false

pub returns-then-not-is_placed : goal.returns-then-not-is_placed
unfolding predict_answer
returns-then-not-is_placed c =
    simp (
      depth-yes c.args.b.d _ (sym c.in_ok-depth.ensures),
      colour-yes c.args.b.direction _ (sym c.in_ok-try_from.ensures),
      sym c.is_reference.ensures ∙ c.if-not-is_reference.false,
      sym c.is_lines.ensures ∙ c.if-not-is_lines.false,
      sym c.is_placed.ensures ∙ c.if-not-is_placed.true,
    )

pub returns-then-not-has_neighbours : goal.returns-then-not-has_neighbours
unfolding predict_answer
returns-then-not-has_neighbours c =
    simp (
      depth-yes c.args.b.d _ (sym c.in_ok-depth.ensures),
      colour-yes c.args.b.direction _ (sym c.in_ok-try_from.ensures),
      sym c.is_reference.ensures ∙ c.if-not-is_reference.false,
      sym c.is_lines.ensures ∙ c.if-not-is_lines.false,
      sym c.is_placed.ensures ∙ c.if-not-is_placed.false,
      sym c.has_neighbours.ensures ∙ c.if-not-has_neighbours.true,
    )

pub overflow_mul-b : goal.overflow_mul-b
overflow_mul-b c =
    let g =
    placed c.args.b (length c.args.luma.now)
    (sym c.is_reference.ensures ∙ c.if-not-is_reference.false)
    (sym c.is_lines.ensures ∙ c.if-not-is_lines.false)
    (sym c.is_placed.ensures ∙ c.if-not-is_placed.false)
    (sym c.has_neighbours.ensures ∙ c.if-not-has_neighbours.false) in
    omega (arith, mul-le-mul g.wide.1 g.high.1)

pub returns-then-n-b : goal.returns-then-n-b
unfolding predict_answer
returns-then-n-b c =
    simp (
      depth-yes c.args.b.d _ (sym c.in_ok-depth.ensures),
      colour-yes c.args.b.direction _ (sym c.in_ok-try_from.ensures),
      sym c.is_reference.ensures ∙ c.if-not-is_reference.false,
      sym c.is_lines.ensures ∙ c.if-not-is_lines.false,
      sym c.is_placed.ensures ∙ c.if-not-is_placed.false,
      sym c.has_neighbours.ensures ∙ c.if-not-has_neighbours.false,
      lt-leb _ _ c.if-n-b.true,
    )

pub luma_in_range-requires : goal.luma_in_range-requires
luma_in_range-requires c =
    let g =
    placed c.args.b (length c.args.luma.now)
    (sym c.is_reference.ensures ∙ c.if-not-is_reference.false)
    (sym c.is_lines.ensures ∙ c.if-not-is_lines.false)
    (sym c.is_placed.ensures ∙ c.if-not-is_placed.false)
    (sym c.has_neighbours.ensures ∙ c.if-not-has_neighbours.false) in
    (depth-yes c.args.b.d _ (sym c.in_ok-depth.ensures), grind (arith, common_steps), g, colour-yes c.args.b.direction _ (sym c.in_ok-try_from.ensures))

pub returns-then-not-luma_in_range : goal.returns-then-not-luma_in_range
unfolding predict_answer
returns-then-not-luma_in_range c =
    simp (
      depth-yes c.args.b.d _ (sym c.in_ok-depth.ensures),
      colour-yes c.args.b.direction _ (sym c.in_ok-try_from.ensures),
      sym c.is_reference.ensures ∙ c.if-not-is_reference.false,
      sym c.is_lines.ensures ∙ c.if-not-is_lines.false,
      sym c.is_placed.ensures ∙ c.if-not-is_placed.false,
      sym c.has_neighbours.ensures ∙ c.if-not-has_neighbours.false,
      le-leb _ _ c.if-n-b.false,
      sym c.luma_in_range.ensures ∙ c.if-not-luma_in_range.true,
    )

pub returns : goal.returns
unfolding predict_answer
returns c =
    simp (
      depth-yes c.args.b.d _ (sym c.in_ok-depth.ensures),
      colour-yes c.args.b.direction _ (sym c.in_ok-try_from.ensures),
      sym c.is_reference.ensures ∙ c.if-not-is_reference.false,
      sym c.is_lines.ensures ∙ c.if-not-is_lines.false,
      sym c.is_placed.ensures ∙ c.if-not-is_placed.false,
      sym c.has_neighbours.ensures ∙ c.if-not-has_neighbours.false,
      le-leb _ _ c.if-n-b.false,
      sym c.luma_in_range.ensures ∙ c.if-not-luma_in_range.false,
    )
