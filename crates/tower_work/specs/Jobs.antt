-- The jobs of a tower's run over three planes of W by H samples and a list of differences, as the theory of orders takes them.
use Rattle.std.specs.Prelude.{List, ℕ, ◌*◌, ℤ, Float, length}
use Rattle.std.specs.Float.{nan}
use Rattle.numbers.specs.Answer.{answer_number}
use Rattle.reorder.specs.Jobs.{Jobs}
use Rattle.planes.specs.Three.{Three, PlanePlace, look_in, Sized}
use Rattle.job.specs.Row.{Row}
use Rattle.tower_touches.specs.Touches.{TowerReads, TowerWrites}
use Rattle.tower_work.specs.Done.{tower_job_answer, tower_done}

-- the answer as its number: "0 is done"
abbrev pub tower_jobs : ℕ → ℕ → List ℤ → Jobs
tower_jobs W H differences = record {
  Pic = Three Float;
  Place = PlanePlace;
  Sample = Float;
  look = λ planes q. look_in nan planes q;
  Fit = λ planes. Sized (W * H) planes;
  Job = Row;
  Answer = ℕ;
  Reads = λ row q. TowerReads W H (length differences) row q;
  Writes = λ row q. TowerWrites W H (length differences) row q;
  step = λ row planes. tower_done W H differences row planes;
  answer = λ row planes. answer_number (tower_job_answer W H (length differences) row planes);
}
