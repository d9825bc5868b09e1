-- The rectangles are exact: a sample is in one of them exactly when the job reads it, or writes it. Assumes nothing.
use mathlib.Core.Path.{◌≡◌, refl, sym, ◌∙◌}
use mathlib.Core.Logic.{◌↔◌, inl, inr}
use mathlib.Core.Bool.{Bool, true, false, false≢true}
use mathlib.Core.List.{List, [], ◌∷◌}
use Prim.Native.Nat.{ℕ}
use native.Mathlib.Omega.{arith}
use Rattle.reorder.specs.Rect.{Rect, In, InAny}
use Rattle.planes.specs.Three.{PlanePlace}
use Rattle.planes.specs.Rects.{InAnyPlane}
use Rattle.job.specs.Row.{Row, spec_of}
use Rattle.job.proofs.Stands.{standing}
use Rattle.touches.specs.Rects.{runs_of}
use Rattle.touches.proofs.Runs.{run-of-read, read-of-run}
use Rattle.clash.specs.Hull.{only_if}
use Rattle.colour_words.proofs.Counted.{luma-exact, counted-exact}
use Rattle.tower_job.specs.Row.{base_row, plane_of, is_colour_mode, colour_of_row}
use Rattle.tower_job.specs.Rules.{tower_stands}
use Rattle.tower_job.proofs.Stands.{colour-placed, base-stands}
use Rattle.tower_touches.specs.Touches.{ColourRead, by-luma, by-chroma, ReadBy, TowerReads, written_rect, TowerWrites}
use Rattle.tower_touches.specs.Rects.{on_plane, colour_rects, rects_by, tower_reads, tower_writes}

-- rectangles of one plane
module _ (W k : ℕ) (q : PlanePlace) where
  on-plane : (Rs : List Rect) → InAnyPlane W (on_plane k Rs) q ↔ ((q.plane ≡ k) × InAny W Rs q.place)
  on-plane [] = (λ i. absurd i, λ i. i.1)
  on-plane (R ∷ Rs) =
      let later = on-plane Rs in (
        elim [ inl i ↦ (i.0, inl i.1) | inr i ↦ let l = later.0 i in (l.0, inr l.1) ],
        λ i. elim i.1 [ inl j ↦ inl (i.0, j) | inr j ↦ inr (later.1 (i.0, j)) ],
      )

-- a job that does not stand has no samples
none : (W p : ℕ) (R : Rect) → ¬ (In W (only_if false R) p)
none W p R i = omega (arith, i.left, i.right)

no-runs : (W : ℕ) (row : Row) (p : ℕ) → ¬ (InAny W (runs_of false (spec_of row)) p)
no-runs W row p (inl i) = omega (arith, i.left, i.right)
no-runs W row p (inr (inl i)) = omega (arith, i.left, i.right)
no-runs W row p (inr (inr (inl i))) = omega (arith, i.left, i.right)
no-runs W row p (inr (inr (inr (inl i)))) = omega (arith, i.left, i.right)
no-runs W row p (inr (inr (inr (inr (inl i))))) = omega (arith, i.left, i.right)
no-runs W row p (inr (inr (inr (inr (inr i))))) = i

module _ (W H n : ℕ) (row : Row) (q : PlanePlace) where
  -- mode 5
  colour-to : is_colour_mode row ≡ true → tower_stands W H n row ≡ true → InAnyPlane W (colour_rects true row) q → ColourRead W (colour_of_row row) (plane_of row) q
  colour-to m e (inl i) =
      let l = (luma-exact W H (colour_of_row row) (colour-placed W H n row m e) q.place).0 i.1 in by-luma l.0 l.1 l.2 l.3 i.0 l.4
  colour-to m e (inr (inl i)) =
      let l = (counted-exact W H (colour_of_row row) (colour-placed W H n row m e) q.place).0 (inl i.1) in by-chroma l.0 l.1 l.2 i.0 l.3
  colour-to m e (inr (inr (inl i))) =
      let l = (counted-exact W H (colour_of_row row) (colour-placed W H n row m e) q.place).0 (inr i.1) in by-chroma l.0 l.1 l.2 i.0 l.3
  colour-to m e (inr (inr (inr (inl i)))) = absurd (omega (arith, i.1.left, i.1.right))
  colour-to m e (inr (inr (inr (inr (inl i))))) = absurd (omega (arith, i.1.left, i.1.right))
  colour-to m e (inr (inr (inr (inr (inr i))))) = absurd i

  colour-from : is_colour_mode row ≡ true → tower_stands W H n row ≡ true → ColourRead W (colour_of_row row) (plane_of row) q → InAnyPlane W (colour_rects true row) q
  colour-from m e (by-luma i j hi hj k p) =
      inl (k, (luma-exact W H (colour_of_row row) (colour-placed W H n row m e) q.place).1 (i, j, hi, hj, p))
  colour-from m e (by-chroma i j c k p) =
      elim ((counted-exact W H (colour_of_row row) (colour-placed W H n row m e) q.place).1 (i, j, c, p)) [
        | inl a ↦ inr (inl (k, a))
        | inr b ↦ inr (inr (inl (k, b)))
      ]

  none-colour : ¬ (InAnyPlane W (colour_rects false row) q)
  none-colour (inl i) = omega (arith, i.1.left, i.1.right)
  none-colour (inr (inl i)) = omega (arith, i.1.left, i.1.right)
  none-colour (inr (inr (inl i))) = omega (arith, i.1.left, i.1.right)
  none-colour (inr (inr (inr (inl i)))) = omega (arith, i.1.left, i.1.right)
  none-colour (inr (inr (inr (inr (inl i))))) = omega (arith, i.1.left, i.1.right)
  none-colour (inr (inr (inr (inr (inr i))))) = i

  -- by the mode and by whether it stands
  reads-to : (m on : Bool) → is_colour_mode row ≡ m → tower_stands W H n row ≡ on → InAnyPlane W (rects_by m on row) q → (tower_stands W H n row ≡ true) × ReadBy m W row q
  reads-to true true m e i = (e, colour-to m e i)
  reads-to true false m e i = absurd (none-colour i)
  reads-to false true m e i =
      let j = (on-plane W (plane_of row) q (runs_of true (spec_of (base_row row)))).0 i in
      (e, (j.0, read-of-run W H (spec_of (base_row row)) (standing W H n (base_row row) (base-stands W H n row m e)) q.place j.1))
  reads-to false false m e i = absurd (no-runs W (base_row row) q.place ((on-plane W (plane_of row) q (runs_of false (spec_of (base_row row)))).0 i).1)

  reads-from : (m on : Bool) → is_colour_mode row ≡ m → tower_stands W H n row ≡ on → tower_stands W H n row ≡ true → ReadBy m W row q → InAnyPlane W (rects_by m on row) q
  reads-from true true m e t r = colour-from m t r
  reads-from false true m e t r =
      (on-plane W (plane_of row) q (runs_of true (spec_of (base_row row)))).1 (r.0, run-of-read W H (spec_of (base_row row)) (standing W H n (base_row row) (base-stands W H n row m t)) q.place r.1)
  reads-from true false m e t r = absurd (false≢true (sym e ∙ t))
  reads-from false false m e t r = absurd (false≢true (sym e ∙ t))

  pub tower-reads-exact : InAnyPlane W (tower_reads W H n row) q ↔ TowerReads W H n row q
  unfolding tower_reads
  tower-reads-exact = (reads-to (is_colour_mode row) (tower_stands W H n row) refl refl, λ r. reads-from (is_colour_mode row) (tower_stands W H n row) refl refl r.0 r.1)

  pub tower-writes-exact : InAnyPlane W (tower_writes W H n row) q ↔ TowerWrites W H n row q
  unfolding tower_writes
  tower-writes-exact = (to (tower_stands W H n row) refl, λ w. from (tower_stands W H n row) w.0 (w.1, w.2))
    where
      to : (on : Bool) → tower_stands W H n row ≡ on → InAnyPlane W (on_plane (plane_of row) (only_if on (written_rect row) ∷ [])) q → TowerWrites W H n row q
      to true e (inl i) = (e, i.0, i.1)
      to true e (inr i) = absurd i
      to false e (inl i) = absurd (none W q.place (written_rect row) i.1)
      to false e (inr i) = absurd i

      from : (on : Bool) → on ≡ true → (q.plane ≡ plane_of row) × In W (written_rect row) q.place
          → InAnyPlane W (on_plane (plane_of row) (only_if on (written_rect row) ∷ [])) q
      from true e w = inl w
      from false e w = absurd (false≢true e)
