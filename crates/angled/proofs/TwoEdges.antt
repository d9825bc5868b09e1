-- Zone 2 reads two edges of B entries: their lists hold samples, and give the definition's block. Assumes nothing.
use mathlib.Core.Bool.{true}
use mathlib.Core.Path.{◌≡◌, ◌∙◌}
use mathlib.Core.List.{List}
use Prim.Native.Nat.{ℕ, ◌+◌, ◌-◌, ◌<◌}
use native.Mathlib.Omega.{arith}
use lib.Ieee.{Float}
use lib.IntN.{ℤ, pos}
use Rattle.signed.specs.Range.{inside, Edge}
use Rattle.lists.specs.Fill.{filled}
use Rattle.lists.specs.Block.{block}
use Rattle.edge_filter.specs.Filter.{padded}
use Rattle.edge_filter.proofs.Ready.{ready_at, ready-inside}
use Rattle.setting.specs.Steps.{step}
use Rattle.setting.specs.Setting.{strength_above, strength_left, limit_above, limit_left}
use Rattle.setting.specs.declared.Setting.{Setting}
use Rattle.setting.proofs.Most.{above_most, left-most}
use Rattle.setting.proofs.Table.{steps-within}
use Rattle.zone_spec.specs.Either.{either}
use Rattle.zone_spec.proofs.Blocks.{zone2-block}
use Rattle.angled.specs.AtAngle.{above_ready, left_ready, z2_from}

module _ (B : ℕ) (s : Setting) (k : ℤ) where
  -- each list holds samples
  pub above-samples : (above zs xs : List ℤ) → Edge 4095 B above → inside (pos 4095) k ≡ true
      → xs ≡ filled (B + 7) (padded 4 B (above_ready B B s B above k)) zs → Edge 4095 (B + 7) xs
  above-samples above zs xs p q e = ready-inside 4095 B (strength_above s (B + B)) (limit_above s B B) (B + 7) k above zs xs (above_most s (B + B)) p q e

  pub left-samples : (left zs xs : List ℤ) → Edge 4095 B left → inside (pos 4095) k ≡ true
      → xs ≡ filled (B + 7) (padded 4 B (left_ready B B s B left k)) zs → Edge 4095 (B + 7) xs
  left-samples left zs xs p q e = ready-inside 4095 B (strength_left s (B + B)) (limit_left s B B) (B + 7) k left zs xs (left-most s (B + B)) p q e

  pub by-strips : (m : ℤ) (above left zs ws xs ys : List ℤ) → 90 < s.angle → s.angle < 180
      → xs ≡ filled (B + 7) (padded 4 B (above_ready B B s B above k)) zs
      → ys ≡ filled (B + 7) (padded 4 B (left_ready B B s B left k)) ws
      → (M : ℤ) (dx dy h : ℕ) → M ≡ m → dx ≡ step (180 - s.angle) → dy ≡ step (s.angle - 90) → h ≡ B → (out : List Float)
      → block B h (either s.flags.luma M dx dy xs ys) out ≡ block B B (z2_from B B m s above left k) out
  by-strips m above left zs ws xs ys low high top side M dx dy h x p q y out =
      let w = steps-within s.angle low high in
      (λ j. block B (y j) (either s.flags.luma (x j) (p j) (q j) xs ys) out)
      ∙ zone2-block B B (B + 7) (above_ready B B s B above k) (left_ready B B s B left k) xs ys
      (ready_at B (strength_above s (B + B)) (limit_above s B B) (B + 7) k above zs xs top)
      (ready_at B (strength_left s (B + B)) (limit_left s B B) (B + 7) k left ws ys side)
      (step (180 - s.angle)) (step (s.angle - 90)) w.0 w.1 w.2 s.flags.luma m out (omega arith) (omega arith)
