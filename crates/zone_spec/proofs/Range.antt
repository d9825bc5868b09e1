-- Samples along an edge are in 0..M: of the fill past its last place where that entry is, and of the interpolation always. M, the edge's length and the
-- steps are open. Assumes nothing.
use mathlib.Core.Bool.{Bool, true}
use mathlib.Core.Path.{◌≡◌}
use Prim.Native.Nat.{ℕ, ◌+◌, ◌*◌, ◌/◌}
use lib.Dec.{leb, ltb}
use lib.IntN.{ℤ, pos}
use Rattle.signed.specs.Range.{inside}
use Rattle.taps.proofs.Inside.{between-inside}
use Rattle.edge_filter.proofs.Filtered.{one_of}
use Rattle.zone_spec.specs.Zones.{sample_along, zone2}

module _ (M : ℕ) where
  abbrev In : ℤ → Type 0
  In z = inside (pos M) z ≡ true

  pub along-inside : (lum : Bool) (n : ℕ) (e : ℕ → ℤ) (q : ℕ) → In (e n) → In (sample_along lum (pos M) n e q)
  unfolding sample_along
  along-inside lum n e q h = one_of In (ltb n (q / 64)) _ _ h (between-inside M lum _ q)

  pub zone2-inside : (lum : Bool) (w h dx dy : ℕ) (above left : ℕ → ℤ) (r c : ℕ) → In (zone2 lum (pos M) w h dx dy above left r c)
  unfolding zone2
  zone2-inside lum w h dx dy above left r c = one_of In (leb ((r + 1) * dx) (64 * (c + 1))) _ _ (between-inside M lum _ _) (between-inside M lum _ _)
