-- Two pictures that agree on what a tower's job reads get the same answer and, if it stands, the same samples of its block. Assumes nothing.
use mathlib.Core.Path.{◌≡◌, refl, sym, ◌∙◌, subst}
use mathlib.Core.Bool.{Bool, true, false}
use mathlib.Core.List.{List}
use Prim.Native.Nat.{ℕ, ◌<◌}
use lib.IntN.{ℤ}
use lib.Ieee.{Float, nan}
use lib.ListN.{get_or}
use Rattle.planes.specs.Three.{Three, PlanePlace, plane_in, look_in}
use Rattle.job.specs.Row.{Row, spec_of}
use Rattle.job.specs.Job.{job_of}
use Rattle.touches.specs.Touches.{Read}
use Rattle.job_work.specs.Written.{written_at}
use Rattle.job_work.proofs.Local.{answer-same, written_same}
use Rattle.colour_sums.specs.Places.{counts}
use Rattle.colour_words.specs.Colour.{colour_window, luma_place, chroma_place}
use Rattle.colour_job.specs.Done.{colour_at}
use Rattle.colour_job.proofs.Local.{colour-answer-same, colour-at-same}
use Rattle.tower_words.specs.Limits.{luma_plane}
use Rattle.tower_job.specs.Row.{base_row, plane_of, is_colour_mode, colour_of_row}
use Rattle.tower_job.specs.Rules.{tower_stands}
use Rattle.tower_job.proofs.Stands.{colour-placed, stands-tower, base-stands}
use Rattle.tower_touches.specs.Touches.{by-luma, by-chroma, ReadBy, TowerReads, written_rect}
use Rattle.tower_work.specs.Done.{own_plane, tower_job_answer}
use Rattle.tower_work.proofs.Answer.{tower-by, tower-base-answer, tower-colour-answer}
use Rattle.tower_work.proofs.Block.{rect_by, at_by, tower_at}

module _ (W H n : ℕ) (row : Row) (s t : Three Float) (agree : (q : PlanePlace) → TowerReads W H n row q → look_in nan s q ≡ look_in nan t q) where
  -- ---- what the planes agree on, by the mode
  agree-by : (b : Bool) → is_colour_mode row ≡ b → tower_stands W H n row ≡ true → (q : PlanePlace) → ReadBy b W row q → look_in nan s q ≡ look_in nan t q
  agree-by b m e q r = agree q (e, subst (λ b. ReadBy b W row q) (sym m) r)

  module _ (m : is_colour_mode row ≡ false) (e : tower_stands W H n row ≡ true) where
    agree-base : (p : ℕ) → Read W (spec_of (base_row row)) p → get_or (own_plane row s) p nan ≡ get_or (own_plane row t) p nan
    agree-base p r = agree-by false m e (record { plane = plane_of row; place = p }) (refl, r)

    base-answer-same : tower_job_answer W H n row s ≡ tower_job_answer W H n row t
    base-answer-same =
        tower-base-answer W H n row s m (stands-tower W H n row e)
        ∙ answer-same W H n (base_row row) (own_plane row s) (own_plane row t) (λ p r. agree-base p r.1)
        ∙ sym (tower-base-answer W H n row t m (stands-tower W H n row e))

    base-at-same : (differences : List ℤ) (r k : ℕ)
        → written_at W differences (job_of (base_row row)) (own_plane row s) r k ≡ written_at W differences (job_of (base_row row)) (own_plane row t) r k
    base-at-same differences r k =
        written_same W H n (base_row row) (own_plane row s) (own_plane row t) (λ p r. agree-base p r.1) differences (base-stands W H n row m e) r k

  module _ (m : is_colour_mode row ≡ true) (e : tower_stands W H n row ≡ true) where
    agree-luma : (i j : ℕ) → i < (colour_of_row row).ref_width → j < (colour_of_row row).ref_height
        → get_or (plane_in s luma_plane) (luma_place W (colour_of_row row) i j) nan ≡ get_or (plane_in t luma_plane) (luma_place W (colour_of_row row) i j) nan
    agree-luma i j hi hj =
        agree-by true m e (record { plane = luma_plane; place = luma_place W (colour_of_row row) i j }) (by-luma i j hi hj refl refl)

    agree-chroma : (i j : ℕ) → counts (colour_window (colour_of_row row)) i j ≡ true
        → get_or (own_plane row s) (chroma_place W (colour_of_row row) i j) nan ≡ get_or (own_plane row t) (chroma_place W (colour_of_row row) i j) nan
    agree-chroma i j c =
        agree-by true m e (record { plane = plane_of row; place = chroma_place W (colour_of_row row) i j }) (by-chroma i j c refl refl)

    colour-jobs-same : tower_job_answer W H n row s ≡ tower_job_answer W H n row t
    colour-jobs-same =
        tower-colour-answer W H n row s m e
        ∙ colour-answer-same W H (colour_of_row row) (colour-placed W H n row m e) _ _ _ _ agree-luma agree-chroma
        ∙ sym (tower-colour-answer W H n row t m e)

    colour-block-same : (r k : ℕ) → r < (colour_of_row row).height → k < (colour_of_row row).width
        → colour_at W (colour_of_row row) (plane_in s luma_plane) (own_plane row s) r k
        ≡ colour_at W (colour_of_row row) (plane_in t luma_plane) (own_plane row t) r k
    colour-block-same r k hr hk = colour-at-same W H (colour_of_row row) (colour-placed W H n row m e) _ _ _ _ agree-luma agree-chroma r k hr hk

  -- ---- in every mode
  pub tower-answer-same : tower_job_answer W H n row s ≡ tower_job_answer W H n row t
  tower-answer-same = go (tower_stands W H n row) (is_colour_mode row) refl refl
    where
      go : (on m : Bool) → tower_stands W H n row ≡ on → is_colour_mode row ≡ m → tower_job_answer W H n row s ≡ tower_job_answer W H n row t
      go true true e m = colour-jobs-same m e
      go true false e m = base-answer-same m e
      go false b e m = tower-by W H n row s false e ∙ sym (tower-by W H n row t false e)

  pub tower-at-same : (differences : List ℤ) → tower_stands W H n row ≡ true → (r k : ℕ) → r < (written_rect row).h → k < (written_rect row).w
      → tower_at W differences row s r k ≡ tower_at W differences row t r k
  unfolding tower_at
  tower-at-same differences e r k hr hk = go (is_colour_mode row) refl hr hk
    where
      go : (b : Bool) → is_colour_mode row ≡ b → r < (rect_by b row).h → k < (rect_by b row).w
          → at_by b W differences row s r k ≡ at_by b W differences row t r k
      go true m hr hk = colour-block-same m e r k hr hk
      go false m hr hk = base-at-same m e differences r k
