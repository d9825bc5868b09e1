-- "which keeps zone 2 inside its left edge" (document 01, Directions): two steps whose product is at most 4096. Assumes nothing.
use Prim.Native.Nat.{ℕ, ◌+◌, ◌*◌, ◌≤◌, ◌<◌}
use native.Mathlib.Nat.{mul-le-mul_right, mul-le-mul_left}
use native.Mathlib.Omega.{arith}

-- a sample that the edge above does not reach lies inside the left edge
pub left-inside : (r c dx dy : ℕ) → 0 < dy → dx * dy ≤ 4096 → 64 * (c + 1) < (r + 1) * dx → (c + 1) * dy < 64 * (r + 1)
left-inside r c dx dy p l h =
    omega (arith, mul-le-mul_right dy h, mul-le-mul_left (r + 1) l)
