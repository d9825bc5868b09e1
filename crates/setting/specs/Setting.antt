-- What a direction is set to, its angle, flags, max-width and max-height, says how far and by which strength its edges are filtered (document 01,
-- Directions).
use Rattle.std.specs.Prelude.{ℕ, ◌+◌, ◌-◌, ◌&&◌}
use Rattle.strength.specs.Strength.{strength}
use Rattle.setting.specs.declared.Setting.{Setting}

-- "distance d of the angle from its edge's own axis (90 for above, 180 for left)"
abbrev pub distance_of : ℕ → ℕ → ℕ
distance_of angle axis = (angle - axis) + (axis - angle)

-- "The edge filter needs its neighbour there." wh is the block's width and height together, 2B
unfoldable pub strength_above : Setting → ℕ → ℕ
strength_above s wh = strength (s.flags.edge_filter && s.flags.above) s.flags.smooth_neighbour wh (distance_of s.angle 90)

unfoldable pub strength_left : Setting → ℕ → ℕ
strength_left s wh = strength (s.flags.edge_filter && s.flags.left) s.flags.smooth_neighbour wh (distance_of s.angle 180)

-- "limits as in `filter_edge`": of an edge of n entries along w columns the places below this one are filtered
abbrev pub limit_above : Setting → ℕ → ℕ → ℕ
limit_above s n w = n + 1 + s.max_width - w

-- along h rows
abbrev pub limit_left : Setting → ℕ → ℕ → ℕ
limit_left s n h = n + 1 + s.max_height - h
