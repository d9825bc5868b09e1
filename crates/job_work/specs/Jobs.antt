-- The jobs of a run over a plane of W by H samples and a list of differences, as the theory of orders takes them.
use Rattle.std.specs.Prelude.{◌≡◌, List, ℕ, ◌*◌, ℤ, Float, length, get_or}
use Rattle.std.specs.Float.{nan}
use Rattle.numbers.specs.Answer.{answer_number}
use Rattle.reorder.specs.Jobs.{Jobs}
use Rattle.job.specs.Row.{Row}
use Rattle.job.specs.Rules.{job_answer}
use Rattle.touches.specs.Touches.{Reads, Writes}
use Rattle.job_work.specs.Done.{job_done}

-- the answer as its number: "0 is done"
abbrev pub jobs : ℕ → ℕ → List ℤ → Jobs
jobs W H differences = record {
  Pic = List Float;
  Place = ℕ;
  Sample = Float;
  look = λ plane p. get_or plane p nan;
  Fit = λ plane. length plane ≡ W * H;
  Job = Row;
  Answer = ℕ;
  Reads = λ row p. Reads W H (length differences) row p;
  Writes = λ row p. Writes W H (length differences) row p;
  step = λ row plane. job_done W H differences row plane;
  answer = λ row plane. answer_number (job_answer W H (length differences) row plane);
}
