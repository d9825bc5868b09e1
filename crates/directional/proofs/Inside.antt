-- Predictions of a direction lie in 0..M where the edges and the corner do, with B, M, the angle, the flags and the limits open. Assumes nothing.
use mathlib.Core.Path.{◌≡◌}
use mathlib.Core.Bool.{true}
use mathlib.Core.List.{List}
use Prim.Native.Nat.{ℕ, ◌+◌, ◌*◌, ◌<◌}
use native.Mathlib.Omega.{arith}
use lib.Dec.{ltb}
use lib.IntN.{ℤ, pos}
use Rattle.signed.specs.Range.{inside, Edge}
use Rattle.edge_filter.proofs.Filtered.{filtered-inside, one_of}
use Rattle.setting.specs.Setting.{strength_above, strength_left, limit_above, limit_left}
use Rattle.setting.specs.declared.Setting.{Setting}
use Rattle.setting.proofs.Most.{above_most, left-most}
use Rattle.zone_spec.proofs.Range.{along-inside, zone2-inside}
use Rattle.angled.specs.AtAngle.{above_ready, left_ready}
use Rattle.directional.specs.Directional.{is_down, is_across, directional_at}

module _ (M B : ℕ) (s : Setting) (above left : List ℤ) (k : ℤ) where
  abbrev In : ℤ → Type 0
  In z = inside (pos M) z ≡ true

  -- the last entries of the filtered edges
  last-above : Edge M (2 * B) above → In k → In (above_ready B B s (B + B) above k (B + B))
  last-above h q = filtered-inside M (B + B) (strength_above s (B + B)) (limit_above s (B + B) B) k above (B + B) (above_most s (B + B)) (λ i l. h i (omega arith)) q (omega arith)

  last-left : Edge M (2 * B) left → In k → In (left_ready B B s (B + B) left k (B + B))
  last-left h q = filtered-inside M (B + B) (strength_left s (B + B)) (limit_left s (B + B) B) k left (B + B) (left-most s (B + B)) (λ i l. h i (omega arith)) q (omega arith)

  pub directional-inside : Edge M (2 * B) above → Edge M (2 * B) left → In k → (r c : ℕ) → r < B → c < B
      → In (directional_at B B (pos M) s above left k r c)
  directional-inside ha hl hk r c hr hc =
      one_of In (is_down s) _ _ (ha c (omega arith))
      (one_of In (is_across s) _ _ (hl r (omega arith))
      (one_of In (ltb s.angle 90) _ _ (along-inside M s.flags.luma (B + B) _ _ (last-above ha hk))
      (one_of In (ltb s.angle 180) _ _ (zone2-inside M s.flags.luma B B _ _ _ _ r c)
      (along-inside M s.flags.luma (B + B) _ _ (last-left hl hk)))))
