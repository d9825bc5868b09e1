-- `do_job` meets its contract: a row that 1 to 7 refuse leaves the plane, and one that is read goes on. Assumes nothing.
use native.Mathlib.Nat.{mul-le-mul}
use native.Mathlib.Omega.{arith}
use mathlib.Core.Path.{sym}
use Rattle.numbers.proofs.Look.{passed_on}
use Rattle.job_work.proofs.Tested.{tested, not-read, read-on}
use Rattle.job_work.proofs.do_job.Goals as goal

pub do_read-requires : goal.do_read-requires
do_read-requires c =
    let g = tested _ _ _ _ _ _ c.requires.plane_value.0 (sym c.in_ok-job.ensures) in
    let h = g.place.stands.side.1 in
    record { tested = g; above_len = (c.requires.above_len.0, c.requires.above_len.1, omega (arith, c.requires.above_len.2, mul-le-mul h h)) }

pub returns-in_err-job : goal.returns-in_err-job
returns-in_err-job c = rw (passed_on _ c.from_residual.ensures.1) (not-read _ _ _ _ _ (sym c.in_err-job.ensures))

pub returns : goal.returns
returns c = read-on _ _ _ _ _ _ (sym c.in_ok-job.ensures) _ _ c.do_read.ensures
