-- `answer_of` meets its contract: each test is the ladder's, in its order. Assumes nothing.
use mathlib.Core.Path.{sym, ◌∙◌}
use Rattle.numbers.proofs.Colours.{colour-yes, colour-else}
use Rattle.numbers.proofs.Look.{passed_on}
use Rattle.colour_params.proofs.rules.answer_of.Goals as goal

pub returns-in_err-try_from : goal.returns-in_err-try_from
returns-in_err-try_from c = passed_on _ c.from_residual.ensures.1 ∙ colour-else _ _ c.in_err-try_from.ensures

pub returns-then-not-are_references : goal.returns-then-not-are_references
returns-then-not-are_references c =
    simp (colour-yes c.args.direction _ (sym c.in_ok-try_from.ensures), sym c.are_references.ensures ∙ c.if-not-are_references.true)

pub returns-then-not-is_lines : goal.returns-then-not-is_lines
returns-then-not-is_lines c =
    simp (
      colour-yes c.args.direction _ (sym c.in_ok-try_from.ensures),
      sym c.are_references.ensures ∙ c.if-not-are_references.false,
      sym c.is_lines.ensures ∙ c.if-not-is_lines.true,
    )

pub returns-then-not-room : goal.returns-then-not-room
returns-then-not-room c =
    simp (
      colour-yes c.args.direction _ (sym c.in_ok-try_from.ensures),
      sym c.are_references.ensures ∙ c.if-not-are_references.false,
      sym c.is_lines.ensures ∙ c.if-not-is_lines.false,
      c.if-not-room.true,
    )

pub returns : goal.returns
returns c =
    simp (
      colour-yes c.args.direction _ (sym c.in_ok-try_from.ensures),
      sym c.are_references.ensures ∙ c.if-not-are_references.false,
      sym c.is_lines.ensures ∙ c.if-not-is_lines.false,
      c.if-not-room.false,
    )
