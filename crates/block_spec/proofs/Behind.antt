-- What stands behind an entry, by which neighbours are there. Assumes nothing.
use mathlib.Core.Path.{◌≡◌, refl}
use mathlib.Core.Bool.{Bool, true, false}
use Prim.Native.Nat.{ℕ, ◌+◌, ◌-◌}
use lib.IntN.{pos, ◌+ℤ◌, ◌-ℤ◌}
use Rattle.edge_line.specs.Along.{along}
use Rattle.block_spec.specs.declared.spec.IntraRefSpec.{IntraRefSpec}
use Rattle.block_spec.specs.Behind.{place, number, above_behind, left_behind, corner_behind}

-- by which neighbours are there
pub neighbours : {P : Type 0} (above left : Bool) → (above ≡ true → left ≡ true → P) → (above ≡ true → left ≡ false → P)
    → (above ≡ false → left ≡ true → P) → (above ≡ false → left ≡ false → P) → P
neighbours true true f g h k = f refl refl
neighbours true false f g h k = g refl refl
neighbours false true f g h k = h refl refl
neighbours false false f g h k = k refl refl

module _ (s : IntraRefSpec) where
  pub above-there : s.have_above ≡ true → (c : ℕ)
      → above_behind s c ≡ place (s.y - 1) (s.x + along s.b s.available_above s.top_right c)
  unfolding above_behind
  above-there a c = rw a

  pub above-by-left : s.have_above ≡ false → s.have_left ≡ true → (c : ℕ) → above_behind s c ≡ place s.y (s.x - 1)
  unfolding above_behind
  above-by-left a l c = rw (a, l)

  pub above-by-base : s.have_above ≡ false → s.have_left ≡ false → (c : ℕ) → above_behind s c ≡ number (pos s.base -ℤ pos 1)
  unfolding above_behind
  above-by-base a l c = rw (a, l)

  pub left_there : s.have_left ≡ true → (c : ℕ)
      → left_behind s c ≡ place (s.y + along s.b s.available_left s.bottom_left c) (s.x - 1)
  unfolding left_behind
  left_there l c = rw l

  pub left-by-above : s.have_left ≡ false → s.have_above ≡ true → (c : ℕ) → left_behind s c ≡ place (s.y - 1) s.x
  unfolding left_behind
  left-by-above l a c = rw (l, a)

  pub left-by-base : s.have_left ≡ false → s.have_above ≡ false → (c : ℕ) → left_behind s c ≡ number (pos s.base +ℤ pos 1)
  unfolding left_behind
  left-by-base l a c = rw (l, a)

  pub corner-by-both : s.have_above ≡ true → s.have_left ≡ true → corner_behind s ≡ place (s.y - 1) (s.x - 1)
  unfolding corner_behind
  corner-by-both a l = rw (a, l)

  pub corner-by-above : s.have_above ≡ true → s.have_left ≡ false → corner_behind s ≡ place (s.y - 1) s.x
  unfolding corner_behind
  corner-by-above a l = rw (a, l)

  pub corner-by-left : s.have_above ≡ false → s.have_left ≡ true → corner_behind s ≡ place s.y (s.x - 1)
  unfolding corner_behind
  corner-by-left a l = rw (a, l)

  pub corner-by-base : s.have_above ≡ false → s.have_left ≡ false → corner_behind s ≡ number (pos s.base)
  unfolding corner_behind
  corner-by-base a l = rw (a, l)
