-- The rectangles of a tower's job lie in its planes. Assumes nothing.
use mathlib.Core.Path.{◌≡◌, refl}
use mathlib.Core.Bool.{Bool, true, false, ◌&&◌}
use Prim.Native.Nat.{ℕ, ◌+◌, ◌-◌, ◌≤◌, min}
use native.Mathlib.Omega.{arith}
use Rattle.signed.proofs.Range.{and_both}
use Rattle.block_spec.specs.declared.spec.IntraRefSpec.{IntraRefSpec}
use Rattle.block_spec.specs.Placed.{Standing}
use Rattle.reorder.specs.Rect.{Rect}
use Rattle.planes.specs.Rects.{Within, AllWithin}
use Rattle.job.specs.Row.{Row, spec_of}
use Rattle.job.proofs.Stands.{standing}
use Rattle.touches.specs.Rects.{rect_if, runs_of}
use Rattle.clash.specs.Hull.{only_if}
use Rattle.colour_words.proofs.Planes.{luma-in-plane, block-in-plane, above-in-plane, beside-in-plane}
use Rattle.tower_job.specs.Row.{base_row, plane_of, is_colour_mode}
use Rattle.tower_job.specs.Rules.{tower_stands}
use Rattle.tower_job.proofs.Stands.{colour-placed, base-stands}
use Rattle.tower_touches.specs.Touches.{written_rect}
use Rattle.tower_touches.specs.Rects.{on_plane, rects_by, tower_reads, tower_writes}

within-if : (W H : ℕ) (R : Rect) (b : Bool) → (b ≡ true → Within W H R) → Within W H (only_if b R)
within-if W H R true f = f refl
within-if W H R false f = (omega arith, omega arith)

-- of the runs of a spec that stands
module _ (W H : ℕ) (s : IntraRefSpec) (on : Bool) (g : on ≡ true → Standing W H s) (k : ℕ) where
  -- of one that is there: a run above, a run at the left, the corner
  above : (x w : ℕ) → (Standing W H s → s.have_above ≡ true → x + w ≤ W) → Within W H (rect_if (on && s.have_above) x (s.y - 1) w 1)
  above x w f =
      within-if W H (record { x = x; y = s.y - 1; w = w; h = 1 }) (on && s.have_above)
      (λ e. let t = and_both on s.have_above e in let p = g t.0 in (f p t.1, omega (arith, p.above t.1, p.rows, p.side)))

  left : (y h : ℕ) → (Standing W H s → s.have_left ≡ true → y + h ≤ H) → Within W H (rect_if (on && s.have_left) (s.x - 1) y 1 h)
  left y h f =
      within-if W H (record { x = s.x - 1; y = y; w = 1; h = h }) (on && s.have_left)
      (λ e. let t = and_both on s.have_left e in let p = g t.0 in (omega (arith, p.left t.1, p.columns, p.side), f p t.1))

  corner : Within W H (rect_if (on && (s.have_above && s.have_left)) (s.x - 1) (s.y - 1) 1 1)
  corner =
      within-if W H (record { x = s.x - 1; y = s.y - 1; w = 1; h = 1 }) (on && (s.have_above && s.have_left))
      (λ e.
      let t = and_both on (s.have_above && s.have_left) e in
      let b = and_both s.have_above s.have_left t.1 in
      let p = g t.0 in
      (omega (arith, p.left b.1, p.columns, p.side), omega (arith, p.above b.0, p.rows, p.side)))

  pub runs-within : AllWithin W H (on_plane k (runs_of on s))
  runs-within =
      let a = above s.x (min s.b s.available_above) (λ p e. omega (arith, p.columns)) in
      let b = above (s.x + s.b) (min s.top_right s.b) (λ p e. (p.above e).2) in
      let c = left s.y (min s.b s.available_left) (λ p e. omega (arith, p.rows)) in
      let d = left (s.y + s.b) (min s.bottom_left s.b) (λ p e. (p.left e).2) in
      (a, (b, (c, (d, (corner, tt)))))

module _ (W H n : ℕ) (row : Row) where
  pub reads-within : AllWithin W H (tower_reads W H n row)
  unfolding tower_reads
  reads-within = go (is_colour_mode row) refl
    where
      go : (m : Bool) → is_colour_mode row ≡ m → AllWithin W H (rects_by m (tower_stands W H n row) row)
      go true e =
          let l = within-if W H _ _ (λ t. luma-in-plane W H _ (colour-placed W H n row e t)) in
          let a = within-if W H _ _ (λ t. above-in-plane W H _ (colour-placed W H n row e t)) in
          let b = within-if W H _ _ (λ t. beside-in-plane W H _ (colour-placed W H n row e t)) in
          (l, (a, (b, ((omega arith, omega arith), ((omega arith, omega arith), tt)))))
      go false e = runs-within W H (spec_of (base_row row)) (tower_stands W H n row) (λ t. standing W H n (base_row row) (base-stands W H n row e t)) (plane_of row)

  pub block_within : tower_stands W H n row ≡ true → Within W H (written_rect row)
  block_within t = go (is_colour_mode row) refl
    where
      go : (m : Bool) → is_colour_mode row ≡ m → Within W H (written_rect row)
      go true e = rw e (block-in-plane W H _ (colour-placed W H n row e t))
      go false e = rw e (let p = standing W H n (base_row row) (base-stands W H n row e t) in (p.columns, p.rows))

  pub writes-within : AllWithin W H (tower_writes W H n row)
  unfolding tower_writes
  writes-within = (within-if W H (written_rect row) (tower_stands W H n row) block_within, tt)
