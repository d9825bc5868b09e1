-- A row that breaks no rule before 8: what its job asks of the planes, and what it leaves of them. Assumes nothing.
use mathlib.Core.Path.{◌≡◌, refl, sym, ◌∙◌, ap, subst}
use mathlib.Core.Bool.{Bool, true, false, cond}
use mathlib.Core.List.{List}
use Prim.Native.Nat.{ℕ}
use lib.IntN.{ℤ}
use lib.Ieee.{Float}
use lib.ListN.{length}
use Rattle.numbers.specs.Answer.{is_done, Answer}
use Rattle.refusals.specs.Promise.{lent}
use Rattle.refusals.proofs.Promise.{lent-refused, refused}
use Rattle.block_spec.proofs.Placed.{plane-is}
use Rattle.planes.specs.Three.{Three, plane_in, with_plane}
use Rattle.job.specs.Row.{Row}
use Rattle.job.specs.Rules.{row_answer, stands}
use Rattle.job.specs.Job.{job_of, read_row}
use Rattle.job.proofs.Read as base
use Rattle.job_work.specs.Granted.{read_answer, read_done}
use Rattle.job_work.proofs.Tested.{tested, read-on}
use Rattle.job.specs.declared.job.Job.{Job}
use Rattle.colour_words.specs.declared.ColourWords.{ColourWords}
use Rattle.colour_job.specs.Answer.{colour_answer}
use Rattle.colour_job.specs.Done.{colour_done}
use Rattle.tower_job.specs.Row.{base_row, plane_of, is_colour_mode, colour_of_row}
use Rattle.tower_job.specs.Rules.{tower_stands}
use Rattle.tower_job.specs.Job.{read_tower}
use Rattle.tower_job.specs.declared.tower.TowerJob.{TowerJob}
use Rattle.tower_job.specs.declared.tower.TowerMode.TheVariants.{Base, Colour}
use Rattle.std.specs.Prelude.{Ok, Err}
use Rattle.numbers.specs.declared.answer.Refusal.{Refusal}
use Rattle.numbers.proofs.Named.{done-is, err-refused}
use Rattle.tower_job.proofs.Read.{read-stands, read-job, refused-stands, answer-no}
use Rattle.tower_job.proofs.Stands.{colour-placed, stands-tower, base-stands, plane-known, colour-plane}
use Rattle.tower_work.specs.Done.{own_plane, own_done, tower_job_answer, tower_done, TowerDone}
use Rattle.tower_work.specs.Granted.{ArePlanes, OnePlane, TowerRead, TowerLeft}
use Rattle.tower_work.proofs.Answer.{tower-by, tower-base-answer, tower-colour-answer}
use Rattle.tower_work.proofs.Onto.{lent-with}

module _ (W H n : ℕ) (row : Row) where
  -- the first library reads the same job
  first_reads : is_colour_mode row ≡ false → tower_stands W H n row ≡ true → read_row W H n (base_row row) ≡ Ok (job_of (base_row row))
  unfolding stands
  first_reads m e = sym (base.reads-yes W H n (base_row row) (sym (done-is _ (base-stands W H n row m e))) (job_of (base_row row)) refl)

  module _ (p0 p1 p2 : List Float) (planes : ArePlanes W H p0 p1 p2) where
    mode-asks : (b : Bool) → is_colour_mode row ≡ b → tower_stands W H n row ≡ true
        → TowerRead W n (length p0) (cond b (Colour (colour_of_row row)) (Base (job_of (base_row row)))) (plane_of row)
    mode-asks true m e =
        let p = plane-is W H (length p0) planes.first in
        (colour-plane W H n row m e, record { H = H; sides = (p.0, p.1); whole = p.2; placed = colour-placed W H n row m e })
    mode-asks false m e = tested W H n (base_row row) (length p0) (job_of (base_row row)) planes.first (first_reads m e)

    pub read-asks : (job : TowerJob) → read_tower W H n row ≡ Ok job
        → OnePlane p0 p1 p2 job.plane × TowerRead W n (length p0) job.mode job.plane
    read-asks job r =
        let e = read-stands W H n row job r in
        rw (read-job W H n row job r) (
          record {
            known = plane-known W H n row e;
            second = (plane-is W H (length p1) planes.second).2 ∙ sym (plane-is W H (length p0) planes.first).2;
            third = (plane-is W H (length p2) planes.third).2 ∙ sym (plane-is W H (length p0) planes.first).2;
          },
          mode-asks (is_colour_mode row) refl e,
        )

module _ (W H : ℕ) (differences : List ℤ) (row : Row) (t : Three Float) where
  abbrev n : ℕ
  n = length differences

  -- a rule before 8 refuses the row
  pub not-read : {r : Refusal} → read_tower W H n row ≡ Err r → TowerDone W H differences row t t (Err r)
  unfolding tower_done tower_stands
  not-read h =
      let no = refused-stands W H n row h in
      let e = answer-no W H n row h in
      refused _ t (e ∙ sym (tower-by W H n row t false no)) (err-refused refl)

  -- what is left of the planes, where the job's own plane and its answer are known
  left : (own : List Float) → tower_stands W H n row ≡ true → own ≡ own_done W H differences row t
      → (is_done (tower_job_answer W H n row t) ≡ false → own ≡ own_plane row t) → (t' : Three Float) → t' ≡ with_plane t (plane_of row) own
      → t' ≡ tower_done W H differences row t
  unfolding tower_done
  left own on e stays t' q =
      q ∙ lent-with (tower_job_answer W H n row t) t (plane_of row) (plane-known W H n row on) own stays
      ∙ ap (λ o. lent (tower_job_answer W H n row t) (with_plane t (plane_of row) o) t) e

  -- a refused job leaves its plane
  colour-stays : (c : ColourWords) → is_done (colour_answer W c (plane_in t 0) (own_plane row t)) ≡ false → colour_done W c (plane_in t 0) (own_plane row t) ≡ own_plane row t
  unfolding colour_done
  colour-stays c f = sym (lent-refused _ _ _ f)

  base_stays : (job : Job) → is_done (read_answer W job (own_plane row t)) ≡ false → read_done W differences job (own_plane row t) ≡ own_plane row t
  unfolding read_done
  base_stays job f = sym (lent-refused _ _ _ f)

  mode-left : (b : Bool) → is_colour_mode row ≡ b → tower_stands W H n row ≡ true → (t' : Three Float) (r : Answer)
      → TowerLeft W differences (cond b (Colour (colour_of_row row)) (Base (job_of (base_row row)))) (plane_of row) t t' r → TowerDone W H differences row t t' r
  mode-left true m e t' r d =
      let c = colour_of_row row in
      let a = tower-colour-answer W H n row t m e in
      record {
        answers = d.answers ∙ sym a;
        holds = left (colour_done W c (plane_in t 0) (own_plane row t)) e (rw m) (λ no. colour-stays c (ap is_done (sym a) ∙ no)) t' d.holds;
      }
  mode-left false m e t' r d =
      let job = job_of (base_row row) in
      let own = own_plane row t in
      let p = read-on W H differences (base_row row) own job (first_reads W H n row m e) (read_answer W job own) (read_done W differences job own) (record { answers = refl; holds = refl }) in
      let a = tower-base-answer W H n row t m (stands-tower W H n row e) in
      record {
        answers = d.answers ∙ p.answers ∙ sym a;
        holds = left (read_done W differences job own) e (rw m p.holds) (λ no. base_stays job (ap is_done (p.answers ∙ sym a) ∙ no)) t' d.holds;
      }

  pub read_left : (job : TowerJob) → read_tower W H n row ≡ Ok job → (t' : Three Float) (r : Answer)
      → TowerLeft W differences job.mode job.plane t t' r → TowerDone W H differences row t t' r
  read_left job q t' r d =
      mode-left (is_colour_mode row) refl (read-stands W H n row job q) t' r
      (subst (λ j. TowerLeft W differences j.mode j.plane t t' r) (read-job W H n row job q) d)
