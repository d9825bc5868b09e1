-- The kernels: each one's sum is 16, so that samples stay samples (document 01, Directions). Assumes nothing.
use mathlib.Core.Path.{◌≡◌, ◌∙◌}
use mathlib.Core.Bool.{true}
use Prim.Native.Nat.{ℕ, zero, suc, ◌+◌, ◌*◌, ◌/◌, ◌≤◌, ◌<◌}
use native.Mathlib.Omega.{arith}
use lib.IntN.{ℤ, pos, nat_abs}
use Rattle.signed.specs.Range.{inside}
use Rattle.signed.proofs.Range.{inside-abs, inside-pos, pos-inside}
use Rattle.kernels.specs.Kernel.{taps5, kernel}

module _ (v a b c d e : ℕ) (ha : a ≤ v) (hb : b ≤ v) (hc : c ≤ v) (hd : d ≤ v) (he : e ≤ v) where
  natural : (s : ℕ) → 0 < s → s ≤ 3
      → inside (pos v) (taps5 (kernel s 0) (kernel s 1) (kernel s 2) (kernel s 3) (kernel s 4) (pos a) (pos b) (pos c) (pos d) (pos e)) ≡ true
  unfolding taps5
  natural zero h l = absurd (omega arith)
  natural (suc zero) h l = pos-inside v ((0 * a + 4 * b + 8 * c + 4 * d + 0 * e + 8) / 16) (omega arith)
  natural (suc (suc zero)) h l = pos-inside v ((0 * a + 5 * b + 6 * c + 5 * d + 0 * e + 8) / 16) (omega arith)
  natural (suc (suc (suc zero))) h l = pos-inside v ((2 * a + 4 * b + 4 * c + 4 * d + 2 * e + 8) / 16) (omega arith)
  natural (suc (suc (suc (suc s)))) h l = absurd (omega arith)

-- five samples give a sample
pub kernel-inside : (v s : ℕ) → 0 < s → s ≤ 3 → (p : ℕ → ℤ) → ((t : ℕ) → inside (pos v) (p t) ≡ true) → (a b c d e : ℕ)
    → inside (pos v) (taps5 (kernel s 0) (kernel s 1) (kernel s 2) (kernel s 3) (kernel s 4) (p a) (p b) (p c) (p d) (p e)) ≡ true
kernel-inside v s h l p q a b c d e =
    let is : (t : ℕ) → p t ≡ pos (nat_abs (p t)) = λ t. inside-pos v (p t) (q t) in
    let most : (t : ℕ) → nat_abs (p t) ≤ v = λ t. inside-abs v (p t) (q t) in
    (λ j. inside (pos v) (taps5 (kernel s 0) (kernel s 1) (kernel s 2) (kernel s 3) (kernel s 4) (is a j) (is b j) (is c j) (is d j) (is e j)))
    ∙ natural v _ _ _ _ _ (most a) (most b) (most c) (most d) (most e) s h l
