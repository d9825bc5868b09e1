-- An edge's filter strength is at most 3 (document 01, Directions). Assumes nothing.
use Prim.Native.Nat.{ℕ, ◌≤◌}
use Rattle.strength.proofs.Most.{strength-most}
use Rattle.setting.specs.Setting.{strength_above, strength_left}
use Rattle.setting.specs.declared.Setting.{Setting}

pub above_most : (s : Setting) (wh : ℕ) → strength_above s wh ≤ 3
unfolding strength_above
above_most s wh = strength-most _ _ wh _

pub left-most : (s : Setting) (wh : ℕ) → strength_left s wh ≤ 3
unfolding strength_left
left-most s wh = strength-most _ _ wh _
