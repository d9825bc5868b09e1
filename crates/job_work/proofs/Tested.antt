-- A row that breaks none of the rules 1 to 7: its job is tested, and 8 alone is left. Assumes nothing.
use mathlib.Core.Path.{◌≡◌, refl, sym, ◌∙◌, ap, subst}
use mathlib.Core.Bool.{true, false}
use mathlib.Core.List.{List}
use Prim.Native.Nat.{ℕ}
use lib.IntN.{ℤ}
use lib.Ieee.{Float}
use lib.ListN.{length}
use borrow.Author.Tests.{leb-true}
use Rattle.numbers.specs.Answer.{Answer}
use Rattle.numbers.proofs.Named.{err-refused}
use Rattle.refusals.specs.Promise.{lent, Promise}
use Rattle.refusals.proofs.Promise.{refused}
use Rattle.block_spec.specs.Rules.{is_plane}
use Rattle.block_spec.proofs.Placed.{placed}
use Rattle.job.specs.Row.{Row, spec_of}
use Rattle.job.specs.Rules.{has_differences, row_answer, stands, job_answer}
use Rattle.job.specs.Job.{job_of, read_row}
use Rattle.touches.specs.Touches.{block_of}
use Rattle.job.specs.declared.job.Job.{Job}
use Rattle.std.specs.Prelude.{Ok, Err}
use Rattle.numbers.specs.declared.answer.Refusal.{Refusal}
use Rattle.job.proofs.Stands.{row_kept, answer-by}
use Rattle.job.proofs.Read.{read-stands, read-job, refused-stands, answer-no}
use Rattle.job_work.specs.Written.{written_at}
use Rattle.paint.specs.Painted.{painted}
use Rattle.job_work.specs.Done.{job_done}
use Rattle.job_work.specs.Granted.{Tested, read_answer, read_done}
use Rattle.modes.proofs.Modes.{mode-turns}

module _ (W H n : ℕ) (row : Row) where
  row-tested : (size : ℕ) → is_plane W H size ≡ true → stands W H n row ≡ true → Tested W n size (job_of row)
  unfolding has_differences
  row-tested size p e =
      let k = row_kept W H n row e in
      record { place = placed size W H (spec_of row) p k.0; turns = mode-turns row; enough = leb-true _ _ k.1 }

  -- the job that was read
  pub tested : (size : ℕ) (job : Job) → is_plane W H size ≡ true → read_row W H n row ≡ Ok job → Tested W n size job
  tested size job p r = subst (λ j. Tested W n size j) (sym (read-job W H n row job r)) (row-tested size p (read-stands W H n row job r))

module _ (W H : ℕ) (differences : List ℤ) (row : Row) (plane : List Float) where
  abbrev Done : Answer → List Float → Type 0
  Done r after = Promise (job_answer W H (length differences) row plane) (job_done W H differences row plane) r after

  -- 1 to 7 refuse the row
  pub not-read : {r : Refusal} → read_row W H (length differences) row ≡ Err r → Done (Err r) plane
  unfolding job_done stands
  not-read h =
      let no : stands W H (length differences) row ≡ false = refused-stands W H (length differences) row h in
      let e = answer-no W H (length differences) row h in
      refused _ plane (e ∙ sym (answer-by W H (length differences) row plane false no)) (err-refused refl)

  -- 8 is left
  pub read-on : (job : Job) → read_row W H (length differences) row ≡ Ok job → (r : Answer) (after : List Float)
      → Promise (read_answer W job plane) (read_done W differences job plane) r after → Done r after
  unfolding job_done read_done read_answer
  read-on job q r after d =
      let yes : stands W H (length differences) row ≡ true = read-stands W H (length differences) row job q in
      let e : job ≡ job_of row = read-job W H (length differences) row job q in
      let same : read_answer W job plane ≡ job_answer W H (length differences) row plane =
      ap (λ j. read_answer W j plane) e ∙ sym (answer-by W H (length differences) row plane true yes) in
      record {
        answers = d.answers ∙ same;
        holds = d.holds
            ∙ (λ i. lent (read_answer W job plane) (painted W (record { x = (e i).spec.x; y = (e i).spec.y; w = (e i).spec.b; h = (e i).spec.b }) (written_at W differences (e i) plane) plane) plane)
            ∙ ap (λ a. lent a (painted W (block_of row) (written_at W differences (job_of row) plane) plane) plane) same;
      }
