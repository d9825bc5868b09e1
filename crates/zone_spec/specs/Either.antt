-- Zone 2 over the code's lists, each of which starts four entries before the corner's own.
use Rattle.std.specs.Prelude.{ℕ, ◌+◌, ◌-◌, ◌*◌, Bool, cond, List, leb, ℤ}
use Rattle.zone_rows.specs.Listed.{listed}

-- from entry c back along a list, by a step for each row down to r
abbrev pub back : Bool → ℤ → ℕ → List ℤ → ℕ → ℕ → ℤ
back lum M dx xs r c = listed lum M xs (64 * (c + 1) - (r + 1) * dx)

unfoldable pub either : Bool → ℤ → ℕ → ℕ → List ℤ → List ℤ → ℕ → ℕ → ℤ
either lum M dx dy top left r c = cond (leb ((r + 1) * dx) (64 * (c + 1))) (back lum M dx top r c) (back lum M dy left c r)
