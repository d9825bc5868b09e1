-- The choice by angle (document 01, Directions): one predicted sample, from the block's size, M, the setting, the edges and the corner.
use Rattle.std.specs.Prelude.{ℕ, Bool, cond, not, ◌&&◌, ◌||◌, List, eqb, ltb, ℤ, pos, get_or}
use Rattle.setting.specs.declared.Setting.{Setting}
use Rattle.angled.specs.AtAngle.{z1_at, z2_at, z3_at}

-- "Angle 90, or below 90 with above missing: copy above down."
unfoldable pub is_down : Setting → Bool
is_down s = eqb s.angle 90 || (ltb s.angle 90 && not s.flags.above)

-- "Angle 180, or over 180 with left missing: copy left across."
unfoldable pub is_across : Setting → Bool
is_across s = eqb s.angle 180 || (ltb 180 s.angle && not s.flags.left)

-- "Below 90 zone 1, to 180 zone 2, beyond zone 3."
abbrev pub directional_at : ℕ → ℕ → ℤ → Setting → List ℤ → List ℤ → ℤ → ℕ → ℕ → ℤ
directional_at w h M s above left k r c =
    cond (is_down s) (get_or above c (pos 0))
    (cond (is_across s) (get_or left r (pos 0))
    (cond (ltb s.angle 90) (z1_at w h M s above k r c)
    (cond (ltb s.angle 180) (z2_at w h M s above left k r c)
    (z3_at w h M s left k r c))))
