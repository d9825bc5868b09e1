-- `tower_run_job` meets its contract: the call's promise, with its answer's number. Assumes nothing.
use Rattle.refusals.proofs.Promise.{numbered}
use Rattle.tower.proofs.jobs.tower_run_job.Goals as goal

pub returns : goal.returns
returns c = numbered c.run_job.ensures c.number.ensures
