-- A single job: refused by 20 or 21, or as in a run. Assumes nothing.
use mathlib.Core.Path.{◌≡◌, refl, sym, ◌∙◌, ap}
use mathlib.Core.Bool.{Bool, true, false, cond}
use mathlib.Core.List.{List, ◌++◌}
use Prim.Native.Nat.{ℕ}
use lib.Dec.{eqb}
use lib.IntN.{ℤ}
use lib.Ieee.{Float}
use lib.ListN.{length}
use Rattle.numbers.specs.Answer.{is_done, Answer}
use Rattle.numbers.specs.declared.answer.Refusal.TheVariants.{BadPlane, BadPlan}
use Rattle.refusals.specs.Ladder.{ladder}
use Rattle.refusals.specs.Promise.{lent, Promise}
use Rattle.refusals.proofs.Promise.{refused}
use Rattle.block_spec.specs.Rules.{is_plane}
use Rattle.sides.specs.Read.{read_rules}
use Rattle.job.specs.Row.{Row, spec_of}
use Rattle.job.specs.Rules.{row_rules, job_answer}
use Rattle.job_work.specs.Done.{job_done}
use Rattle.single_job.specs.Single.{single_answer, single_done}
use Rattle.std.specs.Prelude.{Err}

-- what a refusal leaves, it leaves twice
lent-twice : (b : Bool) (done before : List Float) → cond b (cond b done before) before ≡ cond b done before
lent-twice true done before = refl
lent-twice false done before = refl

module _ (W H : ℕ) (differences : List ℤ) (row : Row) (plane : List Float) where
  abbrev n : ℕ
  n = length differences

  abbrev later : Answer
  later = ladder (row_rules W H n row ++ read_rules plane W (spec_of row))

  abbrev Single : Answer → List Float → Type 0
  Single r after = Promise (single_answer W H n row plane) (single_done W H differences row plane) r after

  pub no-plane : is_plane W H (length plane) ≡ false → Single (Err BadPlane) plane
  unfolding single_answer single_done is_done
  no-plane e = refused _ plane (sym (ap (λ t. cond t (cond (eqb (length row) 16) later (Err BadPlan)) (Err BadPlane)) e)) refl

  module _ (p : is_plane W H (length plane) ≡ true) where
    pub no_row : eqb (length row) 16 ≡ false → Single (Err BadPlan) plane
    unfolding single_answer single_done is_done
    no_row e = refused _ plane (sym (λ j. cond (p j) (cond (e j) later (Err BadPlan)) (Err BadPlane))) refl

    pub goes_on : eqb (length row) 16 ≡ true → (r : Answer) (after : List Float) → Promise (job_answer W H n row plane) (job_done W H differences row plane) r after
        → Single r after
    unfolding single_answer single_done job_answer job_done
    goes_on e r after d =
        let same : cond (is_plane W H (length plane)) (cond (eqb (length row) 16) later (Err BadPlan)) (Err BadPlane) ≡ later =
        λ j. cond (p j) (cond (e j) later (Err BadPlan)) (Err BadPlane) in
        record {
          answers = d.answers ∙ sym same;
          holds = d.holds ∙ sym (ap (λ a. lent a (job_done W H differences row plane) plane) same ∙ lent-twice (is_done later) _ plane);
        }
