-- `run_job` meets its contract. Assumes nothing.
use borrow.Author.Tests.{eq-eqb, ne_eqb}
use mathlib.Core.Path.{sym, ◌∙◌}
use Rattle.numbers.proofs.Look.{passed_on}
use Rattle.single_job.proofs.Singles.{no-plane, no_row, goes_on}
use Rattle.job_work.proofs.Tested.{tested, not-read, read-on}
use Rattle.single_job.proofs.run_job.Goals as goal

pub returns-then-not-is_plane : goal.returns-then-not-is_plane
returns-then-not-is_plane c = no-plane _ _ _ _ _ (sym c.is_plane.ensures ∙ c.if-not-is_plane.true)

pub returns-then-row-ne-COUNT : goal.returns-then-row-ne-COUNT
returns-then-row-ne-COUNT c = no_row _ _ _ _ _ (sym c.is_plane.ensures ∙ c.if-not-is_plane.false) (ne_eqb _ _ c.if-row-ne-COUNT.true)

pub alone-requires : goal.alone-requires
alone-requires c = tested _ _ _ _ _ _ (sym c.is_plane.ensures ∙ c.if-not-is_plane.false) (sym c.in_ok-job.ensures)

pub returns-in_err-job : goal.returns-in_err-job
returns-in_err-job c =
    rw (passed_on _ c.from_residual.ensures.1)
    (goes_on _ _ _ _ _ (sym c.is_plane.ensures ∙ c.if-not-is_plane.false) (eq-eqb _ _ c.if-row-ne-COUNT.false) _ _
    (not-read _ _ _ _ _ (sym c.in_err-job.ensures)))

pub returns : goal.returns
returns c =
    goes_on _ _ _ _ _ (sym c.is_plane.ensures ∙ c.if-not-is_plane.false) (eq-eqb _ _ c.if-row-ne-COUNT.false) _ _
    (read-on _ _ _ _ _ _ (sym c.in_ok-job.ensures) _ _ c.alone.ensures)
