-- `do_job` meets its contract: the row is read, and then its job is done. Assumes nothing.
use mathlib.Core.Path.{sym}
use Rattle.numbers.proofs.Look.{passed_on}
use Rattle.tower_work.proofs.Read.{read-asks, not-read, read_left}
use Rattle.tower_work.proofs.do_job.Goals as goal

pub do_read-requires : goal.do_read-requires
do_read-requires c =
    record { one_plane = read-asks _ _ _ _ _ _ _ c.requires.are_planes.0 _ (sym c.in_ok-job.ensures); luma_len = c.requires.luma_len }

pub returns-in_err-job : goal.returns-in_err-job
returns-in_err-job c = rw (passed_on _ c.from_residual.ensures.1) (not-read _ _ _ _ _ (sym c.in_err-job.ensures))

pub returns : goal.returns
returns c = read_left _ _ _ _ _ _ (sym c.in_ok-job.ensures) _ _ c.do_read.ensures
