-- Blocks: what the code's rows hold over lists is what the zones' definitions say of the edges that the lists hold. Assumes nothing.
use mathlib.Core.Bool.{Bool, true}
use mathlib.Core.Path.{◌≡◌, sym}
use mathlib.Core.List.{List}
use Prim.Native.Nat.{ℕ, ◌+◌, ◌*◌, ◌/◌, ◌≤◌, ◌<◌}
use native.Mathlib.Nat.{mul-le-mul_right}
use native.Mathlib.Omega.{arith}
use lib.Ieee.{Float}
use lib.IntN.{ℤ, pos}
use lib.ListN.{get_or}
use Rattle.signed.specs.Range.{inside}
use Rattle.lists.specs.Block.{block}
use Rattle.lists.proofs.Block.{block_same}
use Rattle.edge_filter.specs.Filter.{padded}
use Rattle.zone_spec.specs.Zones.{zone1, zone2, zone3}
use Rattle.zone_rows.specs.Listed.{ahead}
use Rattle.zone_spec.specs.Either.{either}
use Rattle.zone_spec.proofs.Along.{along-listed, zone2-listed}

-- one edge
module _ (n size : ℕ) (e : ℕ → ℤ) (xs : List ℤ) (holds : (j : ℕ) → j < size → get_or xs j (pos 0) ≡ padded 4 n e j)
    (lum : Bool) (v : ℕ) (last : inside (pos v) (e n) ≡ true) (w h step : ℕ) (out : List Float) where
  pub zone1-block : h * step / 64 + w + 7 ≤ size → block w h (ahead lum (pos v) step xs) out ≡ block w h (zone1 lum (pos v) n step e) out
  zone1-block room =
      block_same w h _ _ out
      (λ r c k l. sym (along-listed n size e xs holds lum v (64 * (c + 1) + (r + 1) * step) last (omega (arith, mul-le-mul_right step k))))

  pub zone3-block : w * step / 64 + h + 7 ≤ size → block w h (λ r c. ahead lum (pos v) step xs c r) out ≡ block w h (zone3 lum (pos v) n step e) out
  zone3-block room =
      block_same w h _ _ out
      (λ r c k l. sym (along-listed n size e xs holds lum v (64 * (r + 1) + (c + 1) * step) last (omega (arith, mul-le-mul_right step l))))

-- two edges
pub zone2-block : (w h size : ℕ) (above left : ℕ → ℤ) (xs ys : List ℤ) → ((j : ℕ) → j < size → get_or xs j (pos 0) ≡ padded 4 w above j)
    → ((j : ℕ) → j < size → get_or ys j (pos 0) ≡ padded 4 h left j) → (dx dy : ℕ) → 0 < dx → 0 < dy → dx * dy ≤ 4096 → (lum : Bool) (M : ℤ) (out : List Float)
    → w + 6 ≤ size → h + 6 ≤ size → block w h (either lum M dx dy xs ys) out ≡ block w h (zone2 lum M w h dx dy above left) out
zone2-block w h size above left xs ys top side dx dy p q l lum M out room more =
    block_same w h _ _ out (λ r c k m. sym (zone2-listed w h above left xs ys size top side dx dy p q l lum M r c (omega arith) (omega arith)))
