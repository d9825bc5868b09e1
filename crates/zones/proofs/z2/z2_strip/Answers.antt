-- `z2_strip` meets its contract: a sample that the edge above does not reach is in a column that was walked, and inside the left edge. Assumes nothing.
use Prim.Native.Nat.{ℕ, ◌≤◌, ◌<◌, ◌+◌, ◌-◌, ◌*◌}
use native.Mathlib.Nat.{mul-le-mul_right}
use native.Mathlib.Omega.{arith}
use mathlib.Core.Path.{◌≡◌, refl, ◌∙◌, ap}
use mathlib.Core.Bool.{Bool, true, false, cond}
use mathlib.Core.List.{List}
use lib.Dec.{leb}
use lib.ListN.{length, get_or}
use lib.IntN.{ℤ, pos}
use lib.Ieee.{Float, nan}
use mir.Syntax.{w32}
use mir.Val.{to_z, of_z}
use mir.Facts.{to_z-of_z}
use borrow.Author.Tests.{leb-false}
use Rattle.lists.specs.Fill.{tab, filled}
use Rattle.lists.specs.Block.{rows, sample}
use Rattle.lists.proofs.Fill.{tab-same}
use Rattle.lists.proofs.Block.{rows_at, rows_same}
use Rattle.taps.specs.Interp.{between}
use Rattle.zone_rows.specs.Listed.{listed}
use Rattle.zone_spec.specs.Either.{either}
use Rattle.zone_spec.specs.Split.{split_of}
use Rattle.zone_spec.proofs.Inside.{left-inside}
use Rattle.zones.proofs.z2.z2_strip.Goals as goal

module _ (w r0 : ℕ) (lum : Bool) (dx dy : ℕ) (m : ℤ) (top side : List ℤ) (some : 0 < dy) (most : dx * dy ≤ 4096) where
  abbrev M : ℤ
  M = to_z w32 (of_z w32 m)

  abbrev left : ℕ → ℤ
  left i = get_or side i (pos 0)

  abbrev column : ℕ → ℕ → Float
  column c j = sample (between lum M left (64 * (r0 + 4) - (c + 1) * dy + 64 * j))

  abbrev up : ℕ → ℕ → Float
  up j c = sample (listed lum M top (64 * (c + 1) - (r0 + j + 1) * dx))

  -- where the edge above does not reach
  aside : (k : ℕ) (before after : List Float) → k ≡ split_of w ((r0 + 4) * dx)
      → after ≡ filled (k * 4) (rows 4 column) before → (j c : ℕ) → j < 4 → c < w → 64 * (c + 1) < (r0 + j + 1) * dx
      → get_or after (c * 4 + j) nan ≡ sample (listed lum M side (64 * (r0 + j + 1) - (c + 1) * dy))
  aside k before after walked e j c p q h =
      let row : r0 + j + 1 ≤ r0 + 4 = omega arith in
      let c-in : c < k = omega (arith, mul-le-mul_right dx row) in
      let inside = left-inside (r0 + j) c dx dy some most h in
      let place : 64 * (r0 + 4) - (c + 1) * dy + 64 * j ≡ 64 * (r0 + j + 1) - (c + 1) * dy + 192 = omega arith in
      ap (λ l. get_or l (c * 4 + j) nan) e
      ∙ rows_at 4 k column before c j nan c-in p
      ∙ ap (λ x. sample (between lum M left x)) place

  stands : (k : ℕ) (before after : List Float) → k ≡ split_of w ((r0 + 4) * dx)
      → after ≡ filled (k * 4) (rows 4 column) before → (j c : ℕ) → j < 4 → c < w
      → cond (leb ((r0 + j + 1) * dx) (64 * (c + 1))) (up j c) (get_or after (c * 4 + j) nan)
      ≡ sample (either lum M dx dy top side (r0 + j) c)
  unfolding either
  stands k before after walked e j c p q = go (leb ((r0 + j + 1) * dx) (64 * (c + 1))) refl
    where
      go : (t : Bool) → leb ((r0 + j + 1) * dx) (64 * (c + 1)) ≡ t
          → cond t (up j c) (get_or after (c * 4 + j) nan)
          ≡ sample (cond t (listed lum M top (64 * (c + 1) - (r0 + j + 1) * dx)) (listed lum M side (64 * (r0 + j + 1) - (c + 1) * dy)))
      go true h = refl
      go false h = aside k before after walked e j c p q (leb-false _ _ h)

pub returns : goal.returns
returns c =
    let n = c.requires.w_bound.7 in
    c.split_rows.ensures
    ∙ tab-same (length c.args.out.now) _ _
    (λ i h. rows_same c.args.w 4 _ _ (stands c.args.w c.args.r0 c.args.lum c.args.dx c.args.dy c.args.m c.args.top.now c.args.left.now c.requires.w_bound.4 c.requires.w_bound.5 _ _ _ c.left_columns.ensures.value c.left_columns.ensures.strip_after) i (omega (arith, n)))
    ∙ (λ j. tab (length c.args.out.now) (rows c.args.w (λ r h. sample (either c.args.lum (to_z-of_z c.ranges.m j) c.args.dx c.args.dy c.args.top.now c.args.left.now (c.args.r0 + r) h))))
