-- What the theory of orders asks of the jobs, and holds: "Two planes that agree on a job's read samples get the same answer and, if done, the same
-- block; a refused job writes nothing." B, D and the mode are open. Assumes nothing.
use mathlib.Core.Path.{◌≡◌, refl, sym, ◌∙◌, ap}
use mathlib.Core.Bool.{Bool, true, false, cond}
use mathlib.Core.List.{List}
use Prim.Native.Nat.{ℕ, ◌-◌, ◌*◌, ◌/◌, ◌%◌, ◌<◌}
use native.Mathlib.Decide.{ℕ_discrete}
use native.Mathlib.Nat.{mul_comm}
use native.Mathlib.Omega.{arith}
use lib.Arith.{digits_lt}
use lib.IntN.{ℤ}
use lib.Ieee.{Float, nan}
use lib.ListN.{length, get_or}
use lib.Seq.{ext_get_or}
use Rattle.numbers.specs.Answer.{answer_number, is_done, Answer}
use Rattle.numbers.proofs.Named.{done-number, number-done}
use Rattle.reorder.specs.Jobs.{Laws, BlockLaws, Agree}
use Rattle.reorder.specs.Rect.{In}
use Rattle.reorder.proofs.Test.{decided}
use Rattle.reorder.proofs.Blocks.{laws}
use Rattle.reorder.proofs.Cross.{in-any-decides}
use Rattle.job.specs.Row.{Row}
use Rattle.job.specs.Rules.{stands, job_answer}
use Rattle.job.specs.Job.{job_of}
use Rattle.touches.specs.Touches.{block_of, Writes}
use Rattle.touches.specs.Rects.{writes_of}
use Rattle.job_work.specs.Written.{written_at}
use Rattle.paint.specs.Painted.{painted}
use Rattle.job_work.specs.Done.{job_done}
use Rattle.job_work.specs.Jobs.{jobs}
use Rattle.job.proofs.Stands.{standing, done-stands}
use Rattle.paint.proofs.Painted.{painted-length, painted-in, painted-out}
use Rattle.job_work.proofs.Local.{answer-same, written_same}
use Rattle.touches.proofs.Exact.{writes-wide, writes-exact}

module _ (W H : ℕ) (differences : List ℤ) where
  abbrev answer_of : Row → List Float → Answer
  answer_of row plane = job_answer W H (length differences) row plane

  abbrev after : Row → List Float → List Float
  after row plane = painted W (block_of row) (written_at W differences (job_of row) plane) plane

  -- by whether the job is done
  by-done : (P : List Float → Type 0) (row : Row) (plane : List Float) → (is_done (answer_of row plane) ≡ true → P (after row plane))
      → (is_done (answer_of row plane) ≡ false → P plane) → P (job_done W H differences row plane)
  unfolding job_done
  by-done P row plane f g = go (is_done (answer_of row plane)) f g
    where
      go : (b : Bool) → (b ≡ true → P (after row plane)) → (b ≡ false → P plane) → P (cond b (after row plane) plane)
      go true f g = f refl
      go false f g = g refl

  pub keeps : (row : Row) (plane : List Float) → length (job_done W H differences row plane) ≡ length plane
  keeps row plane =
      by-done (λ t. length t ≡ length plane) row plane (λ e. painted-length W (block_of row) (written_at W differences (job_of row) plane) plane) (λ e. refl)

  pub writes? : (row : Row) (p : ℕ) → Dec (Writes W H (length differences) row p)
  writes? row p =
      elim (decided _ _ (in-any-decides W (writes_of W H (length differences) row) (writes-wide W H (length differences) row) p)) [
        | yes i ↦ yes ((writes-exact W H (length differences) row p).0 i)
        | no n ↦ no (λ w. n ((writes-exact W H (length differences) row p).1 w))
      ]

  -- what is outside the block stays
  pub frame : (row : Row) (plane : List Float) (p : ℕ) → ¬ (Writes W H (length differences) row p)
      → get_or (job_done W H differences row plane) p nan ≡ get_or plane p nan
  frame row plane p out =
      by-done (λ t. get_or t p nan ≡ get_or plane p nan) row plane
      (λ e.
      let on = done-stands W H (length differences) row plane e in
      painted-out W (block_of row) (written_at W differences (job_of row) plane) plane (standing W H _ row on).columns p (λ i. out (on, i)))
      (λ e. refl)

  -- a refused job writes nothing
  pub refused : (row : Row) (plane : List Float) → ¬ (answer_number (answer_of row plane) ≡ 0) → job_done W H differences row plane ≡ plane
  refused row plane n = by-done (λ t. t ≡ plane) row plane (λ e. absurd (n (done-number _ e))) (λ e. refl)

  -- a sample of the block lies in the plane
  in_block : (row : Row) → stands W H (length differences) row ≡ true → (p : ℕ) → In W (block_of row) p → p < W * H
  in_block row on p i =
      let g = standing W H _ row on in
      omega (arith, i.place, digits_lt {q = i.row} {m = H} {r = i.col} {c = W} (omega (arith, g.rows)) (omega (arith, g.columns)), mul_comm W H)

  block-at : (row : Row) (plane : List Float) → length plane ≡ W * H → is_done (answer_of row plane) ≡ true → (p : ℕ) → In W (block_of row) p
      → get_or (job_done W H differences row plane) p nan ≡ written_at W differences (job_of row) plane (p / W - (block_of row).y) (p % W - (block_of row).x)
  unfolding job_done
  block-at row plane l e p i =
      let on = done-stands W H (length differences) row plane e in
      ap (λ b. get_or (cond b (after row plane) plane) p nan) e
      ∙ painted-in W (block_of row) (written_at W differences (job_of row) plane) plane (standing W H _ row on).columns p (omega (arith, in_block row on p i)) i

  -- the same block
  pub same_block : (row : Row) (s t : List Float) → length s ≡ W * H → length t ≡ W * H → Agree (jobs W H differences) row s t
      → answer_number (answer_of row s) ≡ 0 → (p : ℕ) → Writes W H (length differences) row p
      → get_or (job_done W H differences row s) p nan ≡ get_or (job_done W H differences row t) p nan
  same_block row s t ls lt agree d p w =
      let e = number-done _ d in
      let e' : is_done (answer_of row t) ≡ true = ap is_done (sym (answer-same W H (length differences) row s t agree)) ∙ e in
      block-at row s ls e p w.1
      ∙ written_same W H (length differences) row s t agree differences w.0 _ _
      ∙ sym (block-at row t lt e' p w.1)

  pub block-laws : BlockLaws (jobs W H differences) (λ a. a ≡ 0)
  block-laws = record {
    ext = λ s t ls lt e. ext_get_or nan s t (ls ∙ sym lt) (λ i h. e i);
    fits = λ row plane l. keeps row plane ∙ l;
    writes? = writes?;
    done? = λ a. ℕ_discrete a 0;
    frame = λ row plane l. frame row plane;
    answer-local = λ row s t ls lt agree. ap answer_number (answer-same W H (length differences) row s t agree);
    same_block = same_block;
    refused = λ row plane l. refused row plane;
  }

  pub job-laws : Laws (jobs W H differences)
  job-laws = laws (jobs W H differences) (λ a. a ≡ 0) block-laws
