-- What the theory of orders asks of a tower's jobs, and holds: "Two planes that agree on a job's read samples get the same answer and, if done, the
-- same block; a refused job writes nothing", of three planes. The sizes, the mode and the number of differences are open. Assumes nothing.
use mathlib.Core.Path.{◌≡◌, sym, ◌∙◌, ap}
use mathlib.Core.Bool.{true}
use mathlib.Core.List.{List}
use Prim.Native.Nat.{ℕ, ◌*◌, ◌<◌}
use native.Mathlib.Decide.{ℕ_discrete}
use native.Mathlib.Nat.{mul_comm}
use native.Mathlib.Omega.{arith}
use lib.Arith.{digits_lt}
use lib.IntN.{ℤ}
use lib.Ieee.{Float, nan}
use lib.ListN.{length, get_or}
use Rattle.numbers.specs.Answer.{answer_number, is_done}
use Rattle.numbers.proofs.Named.{number-done}
use Rattle.reorder.specs.Jobs.{Laws, BlockLaws, Agree}
use Rattle.reorder.specs.Rect.{Rect, In}
use Rattle.reorder.proofs.Blocks.{laws}
use Rattle.planes.specs.Three.{Three, PlanePlace, look_in, Sized}
use Rattle.planes.specs.Rects.{Within}
use Rattle.planes.proofs.Three.{three-ext}
use Rattle.paint.proofs.Painted.{painted-in, painted_same}
use Rattle.job.specs.Row.{Row}
use Rattle.tower_job.specs.Row.{plane_of}
use Rattle.tower_job.proofs.Stands.{plane-known}
use Rattle.tower_touches.specs.Touches.{written_rect, TowerWrites}
use Rattle.tower_touches.proofs.Within.{block_within}
use Rattle.tower_work.specs.Done.{own_plane, tower_job_answer, tower_done}
use Rattle.tower_work.specs.Jobs.{tower_jobs}
use Rattle.tower_work.proofs.Block.{tower_at, block_done, tower-done}
use Rattle.tower_work.proofs.Local.{tower-answer-same, tower-at-same}
use Rattle.tower_work.proofs.Frame.{look-same, own-length, tower-fits, tower-writes?, tower-frame, tower-kept}

-- a sample of a rectangle within a plane is one of the plane's
in-plane : (W H : ℕ) (R : Rect) (p : ℕ) → Within W H R → In W R p → p < W * H
in-plane W H R p w i =
    let h = digits_lt {q = i.row} {m = H} {r = i.col} {c = W} (omega (arith, w.1, i.bottom)) (omega (arith, w.0, i.right)) in
    omega (arith, i.place, h, mul_comm W H)

module _ (W H : ℕ) (differences : List ℤ) where
  -- a sample of the block of a job that is done
  block-at : (row : Row) (planes : Three Float) → is_done (tower_job_answer W H (length differences) row planes) ≡ true
      → (q : PlanePlace) → TowerWrites W H (length differences) row q
      → look_in nan (tower_done W H differences row planes) q ≡ get_or (block_done W H differences row planes) q.place nan
  block-at row planes d q (on, k, i) =
      ap (λ t. look_in nan t q) (tower-done W H differences row planes d)
      ∙ look-same planes (plane_of row) _ q (plane-known W H (length differences) row on) k

  -- the same block
  pub tower-same-block : (row : Row) (s t : Three Float) → Sized (W * H) s → Sized (W * H) t → Agree (tower_jobs W H differences) row s t
      → answer_number (tower_job_answer W H (length differences) row s) ≡ 0 → (q : PlanePlace) → TowerWrites W H (length differences) row q
      → look_in nan (tower_done W H differences row s) q ≡ look_in nan (tower_done W H differences row t) q
  tower-same-block row s t zs zt agree a q w =
      let d = number-done _ a in
      let d' = ap is_done (sym (tower-answer-same W H (length differences) row s t agree)) ∙ d in
      let R = written_rect row in
      let b = block_within W H (length differences) row w.0 in
      let h = in-plane W H R q.place b w.2 in
      let f = tower_at W differences row s in
      let g = tower_at W differences row t in
      let same = tower-at-same W H (length differences) row s t agree differences w.0 in
      block-at row s d q w
      ∙ ap (λ l. get_or l q.place nan) (painted_same W R f g (own_plane row s) same)
      ∙ painted-in W R g (own_plane row s) b.0 q.place (omega (arith, h, own-length W H differences row s zs w.0)) w.2
      ∙ sym (painted-in W R g (own_plane row t) b.0 q.place (omega (arith, h, own-length W H differences row t zt w.0)) w.2)
      ∙ sym (block-at row t d' q w)

  pub tower-block-laws : BlockLaws (tower_jobs W H differences) (λ a. a ≡ 0)
  tower-block-laws = record {
    ext = λ s t zs zt e. three-ext nan (W * H) s t zs zt e;
    fits = tower-fits W H differences;
    writes? = tower-writes? W H differences;
    done? = λ a. ℕ_discrete a 0;
    frame = λ row planes z. tower-frame W H differences row planes;
    answer-local = λ row s t zs zt agree. ap answer_number (tower-answer-same W H (length differences) row s t agree);
    same_block = tower-same-block;
    refused = λ row planes z. tower-kept W H differences row planes;
  }

  pub tower-laws : Laws (tower_jobs W H differences)
  tower-laws = laws (tower_jobs W H differences) (λ a. a ≡ 0) tower-block-laws
