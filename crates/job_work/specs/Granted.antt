-- A job that none of the rules refuses.
use Rattle.std.specs.Prelude.{◌≡◌, true, List, ℕ, ◌+◌, ◌*◌, ◌≤◌, ℤ, Float, length}
use Rattle.row_words.specs.Mode.{DeltaInRange}
use Rattle.refusals.specs.Ladder.{ladder}
use Rattle.refusals.specs.Promise.{lent}
use Rattle.sides.specs.Read.{all_read, read_rules}
use Rattle.block_spec.specs.Placed.{Placed}
use Rattle.touches.specs.Touches.{block_at}
use Rattle.job.specs.declared.job.Job.{Job}
use Rattle.job_work.specs.Written.{written_at}
use Rattle.paint.specs.Painted.{painted}
use Rattle.numbers.specs.Answer.{Answer}

-- 1 to 7 do not refuse it, over a plane of W by H samples, `size` in all, with n differences
pub record Tested (W n size : ℕ) (job : Job) : Type 0 where
  pub place : Placed size W job.spec
  pub turns : DeltaInRange job.mode
  pub enough : job.start + job.spec.b * job.spec.b ≤ n

-- and 8 does not
pub record Granted (W n : ℕ) (job : Job) (plane : List Float) : Type 0 where
  pub tested : Tested W n (length plane) job
  pub read : all_read plane W job.spec ≡ true

-- what 8 answers to a job that is read, and the plane afterwards
unfoldable pub read_answer : ℕ → Job → List Float → Answer
read_answer W job plane = ladder (read_rules plane W job.spec)

unfoldable pub read_done : ℕ → List ℤ → Job → List Float → List Float
read_done W differences job plane =
    lent (read_answer W job plane) (painted W (block_at job.spec) (written_at W differences job plane) plane) plane
