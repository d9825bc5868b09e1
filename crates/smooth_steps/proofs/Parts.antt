-- The steps of a smooth sample in natural numbers: `part` stays between its ends and, by no part, where it is. Assumes nothing.
use mathlib.Core.Path.{◌≡◌, ◌∙◌, ap}
use Prim.Native.Nat.{ℕ, ◌+◌, ◌-◌, ◌*◌, ◌/◌, ◌≤◌, ◌<◌}
use native.Mathlib.Nat.{sub-zero}
use native.Mathlib.Omega.{arith}
use lib.Arith.{digits_div}
use Rattle.signed.proofs.Mean.{mean-most}
use Rattle.smooth_steps.specs.Parts.{part, weighed}

-- the sum in the order in which the code adds it
pub ramp-is : (m e t w : ℕ) → (t * w + (e * (m - w) + m / 2)) / m ≡ part m e t w
unfolding part
ramp-is m e t w = ap (λ n. n / m) (omega arith)

module _ (m : ℕ) (some : 0 < m) where
  pub part-most : (M x y w : ℕ) → x ≤ M → y ≤ M → w ≤ m → part m x y w ≤ M
  unfolding part
  part-most M x y w hx hy hw = mean-most x y w (m / 2) m M some hw (omega arith) hx hy

  pub part_none : (x y : ℕ) → part m x y 0 ≡ x
  unfolding part
  part_none x y =
      let e : y * 0 + x * (m - 0) + m / 2 ≡ x * m + m / 2 = rw (sub-zero) (omega arith) in
      rw (e, digits_div x {m = m} {r = m / 2} (omega arith))

pub weighed-most : (m M e t w v : ℕ) → 0 < m → e ≤ M → t ≤ M → w ≤ m → v ≤ 64 → weighed m e t w v ≤ M
weighed-most m M e t w v some he ht hw hv = part-most 64 (omega arith) M _ t v (part-most m some M e t w he ht hw) ht hv

-- without weight
pub weighed-none : (m e t w v : ℕ) → v ≡ 0 → weighed m e t w v ≡ part m e t w
weighed-none m e t w v z = ap (λ n. weighed m e t w n) z ∙ part_none 64 (omega arith) (part m e t w) t
