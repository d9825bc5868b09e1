-- `run_job` meets its contract. Assumes nothing.
use borrow.Author.Tests.{eq-eqb, ne_eqb}
use mathlib.Core.Path.{sym, ◌∙◌}
use Rattle.numbers.proofs.Look.{passed_on}
use Rattle.tower_rules.proofs.Tests.{planes-of}
use Rattle.tower_work.proofs.Read.{read-asks, not-read, read_left}
use Rattle.tower_single.proofs.Singles.{no-plane, no_row, goes_on}
use Rattle.tower_single.proofs.run_job.Goals as goal

pub returns-then-not-are_planes : goal.returns-then-not-are_planes
returns-then-not-are_planes c = let p = c.are_planes in no-plane _ _ _ _ _ (sym p.ensures ∙ c.if-not-are_planes.true)

pub returns-then-row-ne-COUNT : goal.returns-then-row-ne-COUNT
returns-then-row-ne-COUNT c = no_row _ _ _ _ _ (sym c.are_planes.ensures ∙ c.if-not-are_planes.false) (ne_eqb _ _ c.if-row-ne-COUNT.true)

pub alone-requires : goal.alone-requires
alone-requires c =
    let q = planes-of _ _ _ _ _ (sym c.are_planes.ensures ∙ c.if-not-are_planes.false) in
    read-asks _ _ _ _ _ _ _ (record { first = q.0; second = q.1; third = q.2 }) _ (sym c.in_ok-job.ensures)

pub returns-in_err-job : goal.returns-in_err-job
returns-in_err-job c =
    rw (passed_on _ c.from_residual.ensures.1)
    (goes_on _ _ _ _ _ (sym c.are_planes.ensures ∙ c.if-not-are_planes.false) (eq-eqb _ _ c.if-row-ne-COUNT.false) _ _
    (not-read _ _ _ _ _ (sym c.in_err-job.ensures)))

pub returns : goal.returns
returns c =
    goes_on _ _ _ _ _ (sym c.are_planes.ensures ∙ c.if-not-are_planes.false) (eq-eqb _ _ c.if-row-ne-COUNT.false) _ _
    (read_left _ _ _ _ _ _ (sym c.in_ok-job.ensures) _ _ c.alone.ensures)
