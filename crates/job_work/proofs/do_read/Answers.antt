-- `do_read` meets its contract: 8 refuses the job, or it is granted. Assumes nothing.
use mathlib.Core.Path.{refl, sym, ◌∙◌, ap}
use mathlib.Core.Bool.{cond}
use Rattle.std.specs.Prelude.{Err}
use Rattle.numbers.specs.Answer.{is_done, done}
use Rattle.numbers.specs.declared.answer.Refusal.TheVariants.{BadSample}
use Rattle.refusals.proofs.Promise.{refused, finished}
use Rattle.job_work.specs.Granted.{read_answer, read_done}
use Rattle.job_work.proofs.do_read.Goals as goal

pub returns-then-not-all_read : goal.returns-then-not-all_read
unfolding read_answer read_done is_done
returns-then-not-all_read c =
    refused _ _ (sym (ap (λ b. cond b done (Err BadSample)) (sym c.all_read.ensures ∙ c.if-not-all_read.true))) refl

pub returns : goal.returns
unfolding read_answer read_done is_done
returns c =
    finished _ _ (sym (ap (λ b. cond b done (Err BadSample)) (sym c.all_read.ensures ∙ c.if-not-all_read.false))) refl c.lent_job.ensures
