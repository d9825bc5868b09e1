-- `size_answer` meets its contract: 1 and then 2. Assumes nothing.
use mathlib.Core.Path.{sym, ◌∙◌}
use Rattle.numbers.proofs.Look.{passed_on}
use Rattle.numbers.proofs.Agree.{size-yes, size-else, depth-yes, depth-else}
use Rattle.block_spec.proofs.answer.size_answer.Goals as goal

pub returns-in_err-try_from : goal.returns-in_err-try_from
returns-in_err-try_from c = passed_on _ c.from_residual.ensures.1 ∙ size-else _ _ c.in_err-try_from.ensures

pub returns-in_err-try_from-2 : goal.returns-in_err-try_from-2
returns-in_err-try_from-2 c =
    rw (size-yes c.args.s.b _ (sym c.in_ok-try_from.ensures))
    (passed_on _ c.from_residual-in_err-try_from-2.ensures.1 ∙ depth-else _ _ c.in_err-try_from-2.ensures)

pub returns : goal.returns
returns c =
    simp (
      size-yes c.args.s.b _ (sym c.in_ok-try_from.ensures),
      depth-yes c.args.s.d _ (sym c.in_ok-try_from-2.ensures),
    )
