-- Where the rectangles of a row lie: in the planes, and so in a tall picture of at most 12,288 rows. Assumes nothing.
use mathlib.Core.Path.{◌≡◌, refl}
use mathlib.Core.Bool.{Bool, true, false, cond}
use mathlib.Core.List.{List, [], ◌∷◌, ◌++◌}
use Prim.Native.Nat.{ℕ, ◌≤◌}
use native.Mathlib.Nat.{mul-le-mul_right}
use native.Mathlib.Omega.{arith}
use Rattle.reorder.specs.Rect.{Rect}
use Rattle.planes.specs.Rects.{PlaneRect, Within, AllWithin, talls}
use Rattle.job.specs.Row.{Row, spec_of}
use Rattle.touches.specs.Rects.{runs_of}
use Rattle.tower_job.specs.Row.{base_row, plane_of, is_colour_mode}
use Rattle.tower_job.specs.Rules.{tower_stands}
use Rattle.tower_job.proofs.Stands.{plane-known}
use Rattle.tower_touches.specs.Rects.{nothing, on_plane, rects_by, tower_reads, tower_writes}
use Rattle.tower_touches.proofs.Within.{reads-within, writes-within}
use Rattle.tower_rects.specs.Rows.{Inside, nothings, row_rects}

-- each is of one of the three planes
abbrev Known : List PlaneRect → Type 0
Known [] = Unit {0}
Known (R ∷ Rs) = (R.plane ≤ 2) × Known Rs

on-known : (k : ℕ) → k ≤ 2 → (Rs : List Rect) → Known (on_plane k Rs)
on-known k h [] = tt
on-known k h (R ∷ Rs) = (h, on-known k h Rs)

inside_both : (W H : ℕ) (Rs Ss : List Rect) → Inside W H Rs → Inside W H Ss → Inside W H (Rs ++ Ss)
inside_both W H [] Ss a b = b
inside_both W H (R ∷ Rs) Ss a b = (a.0, inside_both W H Rs Ss a.1 b)

-- several of one plane, by themselves
pub inside-plane : (W H k : ℕ) → W ≤ 4096 → H ≤ 4096 → (Rs : List Rect) → AllWithin W H (on_plane k Rs) → Inside 4096 4096 Rs
inside-plane W H k w h [] a = tt
inside-plane W H k w h (R ∷ Rs) a = ((omega (arith, a.0), omega (arith, a.0)), inside-plane W H k w h Rs a.1)

-- several in the tall picture
inside-talls : (W H : ℕ) → W ≤ 4096 → H ≤ 4096 → (Rs : List PlaneRect) → AllWithin W H Rs → Known Rs → Inside 32767 32767 (talls H Rs)
inside-talls W H w h [] a k = tt
inside-talls W H w h (R ∷ Rs) a k =
    ((omega (arith, a.0), omega (arith, a.0, mul-le-mul_right H k.0)), inside-talls W H w h Rs a.1 k.1)

module _ (W H n : ℕ) (row : Row) (w : W ≤ 4096) (h : H ≤ 4096) where
  reads_known : plane_of row ≤ 2 → Known (tower_reads W H n row)
  unfolding tower_reads
  reads_known k = go (is_colour_mode row) (tower_stands W H n row)
    where
      go : (m on : Bool) → Known (rects_by m on row)
      go true on = (omega arith, (k, (k, (k, (k, tt)))))
      go false on = on-known (plane_of row) k (runs_of on (spec_of (base_row row)))

  writes-known : plane_of row ≤ 2 → Known (tower_writes W H n row)
  unfolding tower_writes
  writes-known k = (k, tt)

  -- what is written into the table fits 16 bits
  pub row_inside : Inside 32767 32767 (row_rects W H n row)
  row_inside = go (tower_stands W H n row) refl
    where
      go : (b : Bool) → tower_stands W H n row ≡ b
          → Inside 32767 32767 (cond b (talls H (tower_writes W H n row) ++ talls H (tower_reads W H n row)) nothings)
      go true e =
          let k = plane-known W H n row e in
          let wr = tower_writes W H n row in
          let re = tower_reads W H n row in
          inside_both 32767 32767 (talls H wr) (talls H re) (inside-talls W H w h wr (writes-within W H n row) (writes-known k))
          (inside-talls W H w h re (reads-within W H n row) (reads_known k))
      go false e = let z : Within 32767 32767 nothing = (omega arith, omega arith) in (z, (z, (z, (z, (z, (z, tt))))))
