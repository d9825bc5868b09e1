-- A row that is read: refused by the first rule that it breaks, or a job. Assumes nothing.
use mathlib.Core.Path.{◌≡◌, sym, ◌∙◌, ap}
use mathlib.Core.Bool.{true, false}
use Prim.Native.Nat.{ℕ}
use Rattle.std.specs.Prelude.{Ok, Err}
use Rattle.numbers.specs.Answer.{done}
use Rattle.numbers.specs.declared.answer.Refusal.{Refusal}
use Rattle.numbers.proofs.Named.{ok-done, err-refused}
use Rattle.refusals.proofs.Yields.{yields-done, yields-err, yielded, yield-refused}
use Rattle.job.specs.Row.{Row}
use Rattle.tower_job.specs.Rules.{tower_answer, tower_stands}
use Rattle.tower_job.specs.Job.{tower_job, read_tower}
use Rattle.tower_job.specs.declared.tower.TowerJob.{TowerJob}

module _ (W H n : ℕ) (row : Row) where
  pub reads-no : {r : Refusal} → Err r ≡ tower_answer W H n row → Err r ≡ read_tower W H n row
  reads-no e = yields-err (tower_job row) e

  pub reads-yes : done ≡ tower_answer W H n row → (job : TowerJob) → job ≡ tower_job row → Ok job ≡ read_tower W H n row
  reads-yes e job j = ap Ok j ∙ yields-done (tower_job row) e

  -- and back: what a row that was read says of its answer
  pub answer-yes : (job : TowerJob) → read_tower W H n row ≡ Ok job → done ≡ tower_answer W H n row
  answer-yes job r = sym (yielded (tower_answer W H n row) (tower_job row) job r).0

  pub answer-no : {r : Refusal} → read_tower W H n row ≡ Err r → Err r ≡ tower_answer W H n row
  answer-no h = sym (yield-refused (tower_answer W H n row) (tower_job row) h)

  pub read-stands : (job : TowerJob) → read_tower W H n row ≡ Ok job → tower_stands W H n row ≡ true
  unfolding tower_stands
  read-stands job r = ok-done (answer-yes job r)

  pub read-job : (job : TowerJob) → read_tower W H n row ≡ Ok job → job ≡ tower_job row
  read-job job r = (yielded (tower_answer W H n row) (tower_job row) job r).1

  pub refused-stands : {r : Refusal} → read_tower W H n row ≡ Err r → tower_stands W H n row ≡ false
  unfolding tower_stands
  refused-stands h = err-refused (answer-no h)
