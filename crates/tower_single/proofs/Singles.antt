-- A single job of a tower: refused by 20 or 21, or as in a run. Assumes nothing.
use mathlib.Core.Path.{◌≡◌, refl, sym, ◌∙◌, ap}
use mathlib.Core.Bool.{Bool, true, false, cond}
use mathlib.Core.List.{List, ◌++◌}
use Prim.Native.Nat.{ℕ}
use lib.Dec.{eqb}
use lib.IntN.{ℤ}
use lib.Ieee.{Float}
use lib.ListN.{length}
use Rattle.numbers.specs.Answer.{is_done, Answer}
use Rattle.numbers.specs.declared.answer.Refusal.TheVariants.{BadPlane, BadPlan}
use Rattle.refusals.specs.Ladder.{ladder}
use Rattle.refusals.specs.Promise.{lent}
use Rattle.refusals.proofs.Promise.{refused}
use Rattle.planes.specs.Three.{Three}
use Rattle.job.specs.Row.{Row}
use Rattle.tower_job.specs.Rules.{tower_rules}
use Rattle.tower_rules.specs.Rules.{are_planes}
use Rattle.tower_work.specs.Done.{tower_read_rules, tower_job_answer, tower_done, TowerDone}
use Rattle.tower_single.specs.Single.{tower_single_answer, tower_single, TowerSingle}
use Rattle.std.specs.Prelude.{Err}

-- what a refusal leaves, it leaves twice
lent-twice : (b : Bool) (done before : Three Float) → cond b (cond b done before) before ≡ cond b done before
lent-twice true done before = refl
lent-twice false done before = refl

module _ (W H : ℕ) (differences : List ℤ) (row : Row) (t : Three Float) where
  abbrev n : ℕ
  n = length differences

  abbrev planes : Bool
  planes = are_planes W H (length t.p0) (length t.p1) (length t.p2)

  abbrev later : Answer
  later = ladder (tower_rules W H n row ++ tower_read_rules W row t)

  pub no-plane : planes ≡ false → TowerSingle W H differences row t t (Err BadPlane)
  unfolding tower_single_answer tower_single is_done
  no-plane e = refused _ t (sym (ap (λ b. cond b (cond (eqb (length row) 32) later (Err BadPlan)) (Err BadPlane)) e)) refl

  module _ (p : planes ≡ true) where
    pub no_row : eqb (length row) 32 ≡ false → TowerSingle W H differences row t t (Err BadPlan)
    unfolding tower_single_answer tower_single is_done
    no_row e = refused _ t (sym (λ j. cond (p j) (cond (e j) later (Err BadPlan)) (Err BadPlane))) refl

    pub goes_on : eqb (length row) 32 ≡ true → (r : Answer) (t' : Three Float) → TowerDone W H differences row t t' r → TowerSingle W H differences row t t' r
    unfolding tower_single_answer tower_single tower_job_answer tower_done
    goes_on e r t' d =
        let same : cond planes (cond (eqb (length row) 32) later (Err BadPlan)) (Err BadPlane) ≡ later = λ j. cond (p j) (cond (e j) later (Err BadPlan)) (Err BadPlane) in
        record {
          answers = d.answers ∙ sym same;
          holds = d.holds ∙ sym (ap (λ a. lent a (tower_done W H differences row t) t) same ∙ lent-twice (is_done later) _ t);
        }
