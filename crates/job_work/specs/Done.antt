-- One job of a run done: the plane afterwards.
use Rattle.std.specs.Prelude.{List, ℕ, ℤ, Float, length}
use Rattle.refusals.specs.Promise.{lent, Promise}
use Rattle.job.specs.Row.{Row}
use Rattle.job.specs.Rules.{job_answer}
use Rattle.job.specs.Job.{job_of}
use Rattle.touches.specs.Touches.{block_of}
use Rattle.paint.specs.Painted.{painted}
use Rattle.job_work.specs.Written.{written_at}
use Rattle.numbers.specs.Answer.{Answer}

-- "it writes its block"; "a refused job writes nothing"
unfoldable pub job_done : ℕ → ℕ → List ℤ → Row → List Float → List Float
job_done W H differences row plane =
    lent (job_answer W H (length differences) row plane) (painted W (block_of row) (written_at W differences (job_of row) plane) plane) plane

-- what a job of a run promises of the plane before and after
abbrev pub JobDone : ℕ → ℕ → List ℤ → Row → List Float → List Float → Answer → Type 0
JobDone W H differences row plane plane' r =
    Promise (job_answer W H (length differences) row plane) (job_done W H differences row plane) r plane'
