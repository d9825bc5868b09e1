-- "Kernels: 0 4 8 4 0; 0 5 6 5 0; 2 4 4 4 2; then + 8, >> 4" (document 01, Directions).
use Rattle.std.specs.Prelude.{ℕ, ◌+◌, ◌-◌, ◌≤◌, ◌<◌, List, [], ◌∷◌, get_or, ℤ, pos, nat_abs, ◌+ℤ◌, ◌*ℤ◌}
use Rattle.std.specs.Int.Signed.{shr_z}

abbrev pub kernels : List (List ℤ)
kernels =
    (pos 0 ∷ pos 4 ∷ pos 8 ∷ pos 4 ∷ pos 0 ∷ []) ∷
    (pos 0 ∷ pos 5 ∷ pos 6 ∷ pos 5 ∷ pos 0 ∷ []) ∷
    (pos 2 ∷ pos 4 ∷ pos 4 ∷ pos 4 ∷ pos 2 ∷ []) ∷
    []

-- tap t of a kernel
abbrev pub tap : List ℤ → ℕ → ℤ
tap k t = get_or k t (pos 0)

-- tap t of the strength s, from 1 on
abbrev pub kernel : ℕ → ℕ → ℤ
kernel s t = tap (get_or kernels (s - 1) []) t

-- "then + 8, >> 4"
unfoldable pub taps5 : ℤ → ℤ → ℤ → ℤ → ℤ → ℤ → ℤ → ℤ → ℤ → ℤ → ℤ
taps5 k0 k1 k2 k3 k4 a b c d e = shr_z (k0 *ℤ a +ℤ k1 *ℤ b +ℤ k2 *ℤ c +ℤ k3 *ℤ d +ℤ k4 *ℤ e +ℤ pos 8) 16

-- of the entries b, b + 1, .. of a list
abbrev pub five : ℤ → ℤ → ℤ → ℤ → ℤ → (ℕ → ℤ) → ℕ → ℤ
five k0 k1 k2 k3 k4 p b = taps5 k0 k1 k2 k3 k4 (p b) (p (b + 1)) (p (b + 2)) (p (b + 3)) (p (b + 4))

-- what the code's steps ask of their kernel
pub record Five (k : List ℤ) : Type 0 where
  pub small : (t : ℕ) → t < 5 → nat_abs (tap k t) ≤ 8
