-- What a tower's job that is done leaves: its plane with its block written, in every mode; one that is refused leaves the planes. Assumes nothing.
use mathlib.Core.Path.{◌≡◌, refl, sym, ◌∙◌, ap}
use mathlib.Core.Bool.{Bool, true, false, cond}
use mathlib.Core.List.{List}
use Prim.Native.Nat.{ℕ}
use lib.IntN.{ℤ}
use lib.Ieee.{Float}
use lib.ListN.{length}
use Rattle.numbers.specs.Answer.{is_done}
use Rattle.reorder.specs.Rect.{Rect}
use Rattle.planes.specs.Three.{Three, plane_in, with_plane}
use Rattle.paint.specs.Painted.{painted}
use Rattle.job.specs.Row.{Row}
use Rattle.job.specs.Job.{job_of}
use Rattle.touches.specs.Touches.{block_of}
use Rattle.job_work.specs.Written.{written_at}
use Rattle.job_work.specs.Done.{job_done}
use Rattle.colour_words.specs.Colour.{colour_rect}
use Rattle.colour_job.specs.Done.{colour_at, colour_done}
use Rattle.tower_words.specs.Limits.{luma_plane}
use Rattle.tower_job.specs.Row.{base_row, plane_of, is_colour_mode, colour_of_row}
use Rattle.tower_job.specs.Rules.{tower_stands}
use Rattle.tower_job.proofs.Stands.{stands-tower}
use Rattle.tower_touches.specs.Touches.{written_rect}
use Rattle.tower_work.specs.Done.{own_plane, tower_job_answer, own_done, tower_done}
use Rattle.tower_work.proofs.Answer.{tower-done-stands, tower-base-answer, tower-colour-answer}

-- by whether the mode is 5: the block, and the sample that the job leaves at its row r and column k
abbrev pub rect_by : Bool → Row → Rect
rect_by b row = cond b (colour_rect (colour_of_row row)) (block_of (base_row row))

abbrev pub at_by : Bool → ℕ → List ℤ → Row → Three Float → ℕ → ℕ → Float
at_by b W differences row planes r k =
    cond b
    (colour_at W (colour_of_row row) (plane_in planes luma_plane) (own_plane row planes) r k)
    (written_at W differences (job_of (base_row row)) (own_plane row planes) r k)

unfoldable pub tower_at : ℕ → List ℤ → Row → Three Float → ℕ → ℕ → Float
tower_at W differences row planes r k = at_by (is_colour_mode row) W differences row planes r k

module _ (W H : ℕ) (differences : List ℤ) (row : Row) (planes : Three Float) where
  -- the job's plane afterwards by whether the mode is 5, and with the block written
  abbrev left_by : Bool → List Float
  left_by b =
      cond b
      (colour_done W (colour_of_row row) (plane_in planes luma_plane) (own_plane row planes))
      (job_done W H differences (base_row row) (own_plane row planes))

  abbrev painted_by : Bool → List Float
  painted_by b = painted W (rect_by b row) (λ r k. at_by b W differences row planes r k) (own_plane row planes)

  abbrev pub block_done : List Float
  block_done = painted W (written_rect row) (tower_at W differences row planes) (own_plane row planes)

  -- the planes afterwards by whether the job is done
  done-by : (b : Bool) → is_done (tower_job_answer W H (length differences) row planes) ≡ b
      → tower_done W H differences row planes ≡ cond b (with_plane planes (plane_of row) (own_done W H differences row planes)) planes
  unfolding tower_done
  done-by b d = ap (λ b. cond b (with_plane planes (plane_of row) (own_done W H differences row planes)) planes) d

  module _ (d : is_done (tower_job_answer W H (length differences) row planes) ≡ true) where
    -- the job's own plane
    pub own-done : own_done W H differences row planes ≡ block_done
    unfolding tower_at job_done colour_done
    own-done = go (is_colour_mode row) refl
      where
        on : tower_stands W H (length differences) row ≡ true
        on = tower-done-stands W H (length differences) row planes d

        go : (b : Bool) → is_colour_mode row ≡ b → left_by b ≡ painted_by b
        go true m =
            ap (λ b. cond b (painted_by true) (own_plane row planes))
            (ap is_done (sym (tower-colour-answer W H (length differences) row planes m on)) ∙ d)
        go false m =
            ap (λ b. cond b (painted_by false) (own_plane row planes))
            (ap is_done (sym (tower-base-answer W H (length differences) row planes m (stands-tower W H (length differences) row on))) ∙ d)

    -- the planes
    pub tower-done : tower_done W H differences row planes ≡ with_plane planes (plane_of row) block_done
    tower-done = done-by true d ∙ ap (with_plane planes (plane_of row)) own-done

  -- "a refused job writes nothing"
  pub tower-refused : is_done (tower_job_answer W H (length differences) row planes) ≡ false → tower_done W H differences row planes ≡ planes
  tower-refused d = done-by false d
