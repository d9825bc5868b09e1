-- A rectangle with so many rows above it and columns before it.
use Rattle.std.specs.Prelude.{◌≡◌, ℕ, ◌+◌, ◌-◌, ◌≤◌, ◌<◌}
use Rattle.plane_windows.specs.declared.patch.Patch.{Patch}

-- column i and row j are in it
abbrev pub Inside : Patch → ℕ → ℕ → Type 0
Inside p i j = (p.x ≤ i) × (i < p.x + p.w) × (p.y ≤ j) × (j < p.y + p.h)

-- r ends where p does, and has each place of p and the one that is so far above and before it
pub record Widened (p : Patch) (up left : ℕ) (r : Patch) : Type 0 where
  pub right : r.x + r.w ≡ p.x + p.w
  pub bottom : r.y + r.h ≡ p.y + p.h
  pub centre : (i j : ℕ) → Inside p i j → Inside r i j
  pub behind : (i j : ℕ) → Inside p i j → Inside r (i - left) (j - up)
