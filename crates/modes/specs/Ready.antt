-- What a job's predictor is given: what every block function is, with a depth and a mode as 2 and 3 leave them.
use Rattle.std.specs.Prelude.{◌≡◌, true, List, ℕ, ℤ, Float}
use Rattle.numbers.specs.Depth.{is_depth, most}
use Rattle.row_words.specs.Mode.{DeltaInRange}
use Rattle.lists.specs.Block.{block}
use Rattle.direct_calls.specs.Given.{Given}
use Rattle.job.specs.declared.job.Job.{Job}
use Rattle.modes.specs.Predictor.{predictor_of}

pub record Ready (job : Job) (above left : List ℤ) (k : ℤ) (n : ℕ) : Type 0 where
  pub given : Given job.spec.b (most job.spec.d) above left k n
  pub depth : is_depth job.spec.d ≡ true
  pub turns : DeltaInRange job.mode

-- the block that the job's mode predicts
abbrev pub predicted_block : Job → List ℤ → List ℤ → ℤ → List Float → List Float
predicted_block job above left k out = block job.spec.b job.spec.b (predictor_of job job.spec.b above left k) out
