-- A row that is read: refused by the first rule that it breaks, or a job. Assumes nothing.
use mathlib.Core.Path.{◌≡◌, sym, ◌∙◌, ap}
use mathlib.Core.Bool.{true, false}
use Prim.Native.Nat.{ℕ}
use Rattle.std.specs.Prelude.{Ok, Err}
use Rattle.numbers.specs.Answer.{done}
use Rattle.numbers.specs.declared.answer.Refusal.{Refusal}
use Rattle.numbers.proofs.Named.{ok-done, err-refused}
use Rattle.refusals.proofs.Yields.{yields-done, yields-err, yielded, yield-refused}
use Rattle.job.specs.Row.{Row}
use Rattle.job.specs.Rules.{row_answer, stands}
use Rattle.job.specs.Job.{job_of, read_row}
use Rattle.job.specs.declared.job.Job.{Job}

module _ (W H n : ℕ) (row : Row) where
  pub reads-no : {r : Refusal} → Err r ≡ row_answer W H n row → Err r ≡ read_row W H n row
  reads-no e = yields-err (job_of row) e

  pub reads-yes : done ≡ row_answer W H n row → (job : Job) → job ≡ job_of row → Ok job ≡ read_row W H n row
  reads-yes e job j = ap Ok j ∙ yields-done (job_of row) e

  -- and back: what a row that was read says of its answer
  pub answer-yes : (job : Job) → read_row W H n row ≡ Ok job → done ≡ row_answer W H n row
  answer-yes job r = sym (yielded (row_answer W H n row) (job_of row) job r).0

  pub answer-no : {r : Refusal} → read_row W H n row ≡ Err r → Err r ≡ row_answer W H n row
  answer-no h = sym (yield-refused (row_answer W H n row) (job_of row) h)

  pub read-stands : (job : Job) → read_row W H n row ≡ Ok job → stands W H n row ≡ true
  unfolding stands
  read-stands job r = ok-done (answer-yes job r)

  pub read-job : (job : Job) → read_row W H n row ≡ Ok job → job ≡ job_of row
  read-job job r = (yielded (row_answer W H n row) (job_of row) job r).1

  pub refused-stands : {r : Refusal} → read_row W H n row ≡ Err r → stands W H n row ≡ false
  unfolding stands
  refused-stands h = err-refused (answer-no h)
