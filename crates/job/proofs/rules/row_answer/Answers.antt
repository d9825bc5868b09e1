-- `row_answer` meets its contract: a row that is read breaks no rule. Assumes nothing.
use mathlib.Core.Path.{sym, ◌∙◌}
use Rattle.numbers.proofs.Look.{passed_on}
use Rattle.job.proofs.Read.{answer-yes, answer-no}
use Rattle.job.proofs.rules.row_answer.Goals as goal

pub returns-in_err-read_row : goal.returns-in_err-read_row
returns-in_err-read_row c = passed_on _ c.from_residual.ensures.1 ∙ answer-no _ _ _ _ (sym c.in_err-read_row.ensures)

pub returns : goal.returns
returns c = answer-yes _ _ _ _ _ (sym c.in_ok-read_row.ensures)
