-- A row that was read into a job: what its rectangles are made of, by its mode. Assumes nothing.
use mathlib.Core.Path.{◌≡◌, refl, sym, ◌∙◌, ap}
use mathlib.Core.Bool.{Bool, true, false, cond}
use mathlib.Core.List.{[], ◌∷◌, ◌++◌}
use Prim.Native.Nat.{ℕ, ◌*◌, ◌≤◌}
use native.Mathlib.Nat.{mul-le-mul_right}
use native.Mathlib.Omega.{arith}
use Rattle.block_spec.specs.Placed.{Standing}
use Rattle.reorder.specs.Rect.{Rect}
use Rattle.planes.specs.Rects.{Within, talls}
use Rattle.job.specs.Row.{Row, spec_of}
use Rattle.job.specs.Job.{job_of}
use Rattle.job.specs.declared.job.Job.{Job}
use Rattle.job.proofs.Stands.{standing}
use Rattle.touches.specs.Touches.{block_at}
use Rattle.touches.specs.Rects.{runs_of}
use Rattle.clash.specs.Rects.{Near}
use Rattle.clash.proofs.Placed.{near_of}
use Rattle.colour_words.specs.declared.ColourWords.{ColourWords}
use Rattle.colour_words.specs.Colour.{luma_rect, colour_rect}
use Rattle.colour_words.specs.Placed.{ColourPlaced}
use Rattle.colour_words.specs.Counted.{above_rect, beside_rect}
use Rattle.colour_words.proofs.Planes.{luma-in-plane, block-in-plane, above-in-plane, beside-in-plane}
use Rattle.tower_job.specs.Row.{base_row, plane_of, is_colour_mode, colour_of_row}
use Rattle.tower_job.specs.Rules.{tower_stands}
use Rattle.tower_job.specs.Job.{read_tower, tower_mode}
use Rattle.tower_job.specs.declared.tower.TowerMode.{TowerMode}
use Rattle.tower_job.specs.declared.tower.TowerMode.TheVariants.{Base, Colour}
use Rattle.tower_job.specs.declared.tower.TowerJob.{TowerJob}
use Rattle.std.specs.Prelude.{Ok}
use Rattle.tower_job.proofs.Read.{read-stands, read-job}
use Rattle.tower_job.proofs.Stands.{plane-known, colour-placed, base-stands}
use Rattle.tower_touches.specs.Rects.{nothing, rects_by, tower_reads, tower_writes}
use Rattle.tower_touches.proofs.Within.{runs-within}
use Rattle.tower_rects.specs.Rows.{Inside, lowered_all, row_rects, ChromaStarts}
use Rattle.tower_rects.proofs.Inside.{inside-plane}

-- which of the two a mode is
module _ (row : Row) where
  abbrev mode_by : Bool → TowerMode
  mode_by b = cond b (Colour (colour_of_row row)) (Base (job_of (base_row row)))

  base-mode : (b : Bool) (job : Job) → mode_by b ≡ Base job → (b ≡ false) × (job ≡ job_of (base_row row))
  base-mode true job e = let z : ◌≡◌ {A = ℕ} 0 1 = cc in absurd (omega arith)
  base-mode false job e = (refl, cc)

  colour-mode : (b : Bool) (c : ColourWords) → mode_by b ≡ Colour c → (b ≡ true) × (c ≡ colour_of_row row)
  colour-mode true c e = (refl, cc)
  colour-mode false c e = let z : ◌≡◌ {A = ℕ} 0 1 = cc in absurd (omega arith)

module _ (W H n : ℕ) (row : Row) (job : TowerJob) (read : read_tower W H n row ≡ Ok job) where
  stands : tower_stands W H n row ≡ true
  stands = read-stands W H n row job read

  plane-is : job.plane ≡ plane_of row
  plane-is = ap (λ j. j.plane) (read-job W H n row job read)

  mode-is : tower_mode row ≡ job.mode
  mode-is = sym (ap (λ j. j.mode) (read-job W H n row job read))

  -- where the job's plane starts in the tall picture
  pub top-few : H ≤ 4096 → job.plane * H ≤ 8192
  top-few h = rw plane-is (omega (arith, mul-le-mul_right H (plane-known W H n row stands)))

  -- the rectangles of a row that stands
  row_by : (m : Bool) → is_colour_mode row ≡ m → row_rects W H n row ≡ talls H (tower_writes W H n row) ++ talls H (rects_by m true row)
  unfolding tower_reads
  row_by m e = rw (stands, e)

  -- modes 0 to 4
  module _ (base : Job) (e : job.mode ≡ Base base) where
    is_base : (is_colour_mode row ≡ false) × (base ≡ job_of (base_row row))
    is_base = base-mode row (is_colour_mode row) base (mode-is ∙ e)

    spec_is : base.spec ≡ spec_of (base_row row)
    spec_is = ap (λ j. j.spec) is_base.1

    placed : Standing W H base.spec
    placed = rw spec_is (standing W H n (base_row row) (base-stands W H n row is_base.0 stands))

    pub base-near : Near base.spec
    base-near = near_of W H base.spec placed

    pub base-inside : W ≤ 4096 → H ≤ 4096 → Inside 4096 4096 (block_at base.spec ∷ runs_of true base.spec)
    base-inside w h = (
      (omega (arith, placed.columns), omega (arith, placed.rows)),
      inside-plane W H 0 w h (runs_of true base.spec) (runs-within W H base.spec true (λ t. placed) 0),
    )

    pub base-row : lowered_all (job.plane * H) (job.plane * H) (block_at base.spec ∷ runs_of true base.spec) ≡ row_rects W H n row
    unfolding tower_writes
    base-row = rw (plane-is, spec_is, row_by false is_base.0, stands, is_base.0)

  -- mode 5
  module _ (c : ColourWords) (e : job.mode ≡ Colour c) where
    is-colour : (is_colour_mode row ≡ true) × (c ≡ colour_of_row row)
    is-colour = colour-mode row (is_colour_mode row) c (mode-is ∙ e)

    laid : ColourPlaced W H c
    laid = rw is-colour.1 (colour-placed W H n row is-colour.0 stands)

    pub chroma-starts : ChromaStarts c
    chroma-starts = record { left = laid.left_in; above = laid.above_in }

    pub colour-inside : W ≤ 4096 → H ≤ 4096
        → Inside 4096 4096 (colour_rect c ∷ luma_rect c ∷ above_rect c ∷ beside_rect c ∷ nothing ∷ nothing ∷ [])
    colour-inside w h =
        let b = block-in-plane W H c laid in
        let l = luma-in-plane W H c laid in
        let a = above-in-plane W H c laid in
        let s = beside-in-plane W H c laid in
        let z : Within 4096 4096 nothing = (omega arith, omega arith) in
        let small : (R : Rect) → Within W H R → Within 4096 4096 R = λ R i. (omega (arith, i), omega (arith, i)) in
        (small _ b, (small _ l, (small _ a, (small _ s, (z, (z, tt))))))

    pub colour-row : lowered_all 0 (job.plane * H) (colour_rect c ∷ luma_rect c ∷ above_rect c ∷ beside_rect c ∷ nothing ∷ nothing ∷ [])
        ≡ row_rects W H n row
    unfolding tower_writes
    colour-row = let z : 0 * H ≡ 0 = omega arith in rw (plane-is, is-colour.1, row_by true is-colour.0, stands, is-colour.0, z)
