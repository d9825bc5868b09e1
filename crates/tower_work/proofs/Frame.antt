-- What a tower's job keeps: the sizes of the planes, and all but its block; and which samples it writes can be told. Assumes nothing.
use mathlib.Core.Path.{◌≡◌, refl, sym, ◌∙◌, ap}
use mathlib.Core.Bool.{Bool, true, false, false≢true}
use mathlib.Core.List.{List}
use Prim.Native.Nat.{ℕ, ◌*◌, ◌≤◌}
use native.Mathlib.Decide.{ℕ_discrete}
use lib.IntN.{ℤ}
use lib.Ieee.{Float, nan}
use lib.ListN.{length, get_or}
use Rattle.numbers.specs.Answer.{answer_number, is_done}
use Rattle.numbers.proofs.Named.{done-number}
use Rattle.reorder.proofs.Test.{decided}
use Rattle.reorder.proofs.Rect.{in-decides}
use Rattle.planes.specs.Three.{Three, PlanePlace, plane_in, with_plane, look_in, Sized}
use Rattle.planes.proofs.Three.{length-in, with-same, with-other, sized-with}
use Rattle.paint.proofs.Painted.{painted-length, painted-out}
use Rattle.job.specs.Row.{Row}
use Rattle.tower_job.specs.Row.{plane_of}
use Rattle.tower_job.specs.Rules.{tower_stands}
use Rattle.tower_job.proofs.Stands.{plane-known}
use Rattle.tower_touches.specs.Touches.{written_rect, TowerWrites}
use Rattle.tower_touches.proofs.Within.{block_within}
use Rattle.tower_work.specs.Done.{own_plane, tower_job_answer, tower_done}
use Rattle.tower_work.proofs.Answer.{tower-done-stands}
use Rattle.tower_work.proofs.Block.{block_done, tower-done, tower-refused}

-- a sample of the plane that becomes another
pub look-same : (t : Three Float) (k : ℕ) (s : List Float) (q : PlanePlace) → k ≤ 2 → q.plane ≡ k
    → look_in nan (with_plane t k s) q ≡ get_or s q.place nan
look-same t k s q h e = ap (λ j. get_or (plane_in (with_plane t k s) j) q.place nan) e ∙ ap (λ l. get_or l q.place nan) (with-same t k s h)

module _ (W H : ℕ) (differences : List ℤ) where
  abbrev Done : Row → Three Float → Bool
  Done row planes = is_done (tower_job_answer W H (length differences) row planes)

  -- by whether the job is done
  by-done : (P : Three Float → Type 0) (row : Row) (planes : Three Float)
      → (Done row planes ≡ true → tower_stands W H (length differences) row ≡ true
      → P (with_plane planes (plane_of row) (block_done W H differences row planes)))
      → P planes → P (tower_done W H differences row planes)
  by-done P row planes f g = go (Done row planes) refl
    where
      go : (b : Bool) → Done row planes ≡ b → P (tower_done W H differences row planes)
      go true d = rw (tower-done W H differences row planes d) (f d (tower-done-stands W H (length differences) row planes d))
      go false d = rw (tower-refused W H differences row planes d) g

  -- the job's plane has W * H samples
  pub own-length : (row : Row) (planes : Three Float) → Sized (W * H) planes → tower_stands W H (length differences) row ≡ true
      → length (own_plane row planes) ≡ W * H
  own-length row planes z on = length-in (W * H) planes z (plane_of row) (plane-known W H (length differences) row on)

  pub tower-fits : (row : Row) (planes : Three Float) → Sized (W * H) planes → Sized (W * H) (tower_done W H differences row planes)
  tower-fits row planes z =
      by-done (Sized (W * H)) row planes
      (λ d on. sized-with planes (plane_of row) _ (W * H) z (painted-length W (written_rect row) _ (own_plane row planes) ∙ own-length row planes z on))
      z

  pub tower-writes? : (row : Row) (q : PlanePlace) → Dec (TowerWrites W H (length differences) row q)
  tower-writes? row q = go (tower_stands W H (length differences) row) refl
    where
      go : (b : Bool) → tower_stands W H (length differences) row ≡ b → Dec (TowerWrites W H (length differences) row q)
      go false e = no (λ w. false≢true (sym e ∙ w.0))
      go true e =
          elim (ℕ_discrete q.plane (plane_of row)) [
            | no n ↦ no (λ w. n w.1)
            | yes k ↦ elim (decided _ _ (in-decides W (written_rect row) (block_within W H (length differences) row e).0 q.place)) [
              | yes i ↦ yes (e, k, i)
              | no n ↦ no (λ w. n w.2)
            ]
          ]

  -- what is outside the block stays
  pub tower-frame : (row : Row) (planes : Three Float) (q : PlanePlace) → ¬ (TowerWrites W H (length differences) row q)
      → look_in nan (tower_done W H differences row planes) q ≡ look_in nan planes q
  tower-frame row planes q out =
      by-done (λ t. look_in nan t q ≡ look_in nan planes q) row planes
      (λ d on.
      elim (ℕ_discrete q.plane (plane_of row)) [
        | yes k ↦
            let wide = (block_within W H (length differences) row on).0 in
            look-same planes (plane_of row) _ q (plane-known W H (length differences) row on) k
            ∙ painted-out W (written_rect row) _ (own_plane row planes) wide q.place (λ i. out (on, k, i))
            ∙ ap (λ j. get_or (plane_in planes j) q.place nan) (sym k)
        | no n ↦ ap (λ s. get_or s q.place nan) (with-other planes (plane_of row) _ q.plane n)
      ])
      refl

  -- a refused job writes nothing
  pub tower-kept : (row : Row) (planes : Three Float) → ¬ (answer_number (tower_job_answer W H (length differences) row planes) ≡ 0)
      → tower_done W H differences row planes ≡ planes
  tower-kept row planes n = by-done (λ t. t ≡ planes) row planes (λ d on. absurd (n (done-number _ d))) refl
