-- A rectangle that lies in a plane: where its rows end, and that no number on the way to them is large. Assumes nothing.
use mathlib.Core.Path.{◌≡◌, ◌∙◌}
use mathlib.Core.List.{List}
use Prim.Native.Nat.{ℕ, ◌+◌, ◌-◌, ◌*◌, ◌≤◌, ◌<◌}
use native.Mathlib.Nat.{mul-le-mul, mul-le-mul_right, mul_comm, add-mul}
use native.Mathlib.Omega.{arith}
use lib.ListN.{get_or, take, drop}
use lib.Seq.{get_or-take, get_or-drop}
use Rattle.plane_windows.specs.Lies.{Lies}

-- an entry of a part that is lent
pub part_at : {A : Type 0} (m n : ℕ) (xs : List A) (i : ℕ) (d : A) → i < n → get_or (take (m + n - m) (drop m xs)) i d ≡ get_or xs (m + i) d
part_at m n xs i d h = get_or-take (m + n - m) (drop m xs) i d (omega arith) ∙ get_or-drop m xs i d

module _ {size W x y w h : ℕ} (l : Lies size W x y w h) where
  pub size-most : size ≤ 16777216
  size-most = omega (arith, l.whole, mul-le-mul l.sides.0 l.sides.1)

  -- row j of it
  pub row-end : (j : ℕ) → j < h → (y + j) * W + (x + w) ≤ size
  row-end j k =
      omega (arith, l.across, l.whole, mul_comm W l.H, add-mul (y + j) 1 W, mul-le-mul_right {m = y + j + 1} {n = l.H} W (omega (arith, l.down)))

  -- where row j would start, also past the last
  pub start-most : (j : ℕ) → j ≤ h → (y + j) * W + x ≤ 16781312
  start-most j k = omega (arith, l.sides, l.across, mul-le-mul {n₁ = y + j} {n₂ = 4096} (omega (arith, l.down, l.sides)) l.sides.0)

  pub first-most : y * W + x ≤ 16781312
  first-most = omega (arith, l.sides, l.across, mul-le-mul {n₁ = y} {n₂ = 4096} (omega (arith, l.down, l.sides)) l.sides.0)
