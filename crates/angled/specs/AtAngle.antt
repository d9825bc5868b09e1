-- "Below 90 zone 1, to 180 zone 2, beyond zone 3." (document 01, Directions): the zones as a direction is set, with their steps and their filtered
-- edges. s is the setting, k the corner.
use Rattle.std.specs.Prelude.{ℕ, ◌+◌, ◌-◌, List, ℤ, pos, get_or}
use Rattle.edge_filter.specs.Filter.{edge, filtered}
use Rattle.zone_spec.specs.Zones.{zone1, zone2, zone3}
use Rattle.setting.specs.Steps.{step}
use Rattle.setting.specs.Setting.{strength_above, strength_left, limit_above, limit_left}
use Rattle.strength.specs.Corner.{filtered_corner}
use Rattle.setting.specs.declared.Setting.{Setting}

-- n entries above a block of w by h, filtered
abbrev pub above_ready : ℕ → ℕ → Setting → ℕ → List ℤ → ℤ → ℕ → ℤ
above_ready w h s n above k = filtered (strength_above s (w + h)) (limit_above s n w) n (edge k above)

-- n entries at its left, filtered
abbrev pub left_ready : ℕ → ℕ → Setting → ℕ → List ℤ → ℤ → ℕ → ℤ
left_ready w h s n left k = filtered (strength_left s (w + h)) (limit_left s n h) n (edge k left)

-- zones 1 and 3 take w + h entries of one edge
abbrev pub z1_at : ℕ → ℕ → ℤ → Setting → List ℤ → ℤ → ℕ → ℕ → ℤ
z1_at w h M s above k = zone1 s.flags.luma M (w + h) (step s.angle) (above_ready w h s (w + h) above k)

abbrev pub z3_at : ℕ → ℕ → ℤ → Setting → List ℤ → ℤ → ℕ → ℕ → ℤ
z3_at w h M s left k = zone3 s.flags.luma M (w + h) (step (270 - s.angle)) (left_ready w h s (w + h) left k)

-- zone 2 takes w entries above and h at the left, from its filtered corner
abbrev pub z2_from : ℕ → ℕ → ℤ → Setting → List ℤ → List ℤ → ℤ → ℕ → ℕ → ℤ
z2_from w h M s above left k =
    zone2 s.flags.luma M w h (step (180 - s.angle)) (step (s.angle - 90)) (above_ready w h s w above k) (left_ready w h s h left k)

abbrev pub z2_at : ℕ → ℕ → ℤ → Setting → List ℤ → List ℤ → ℤ → ℕ → ℕ → ℤ
z2_at w h M s above left k =
    z2_from w h M s above left (filtered_corner s.flags.edge_filter (w + h) (get_or left 0 (pos 0)) k (get_or above 0 (pos 0)))
