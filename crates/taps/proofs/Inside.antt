-- A sample between entries is in 0..M, and of chroma the two taps' value already is: its clip never acts. M, the taps' phase and the entries are open.
-- Assumes nothing.
use mathlib.Core.Bool.{Bool, true, false}
use mathlib.Core.Path.{◌≡◌, ◌∙◌, ap}
use Prim.Native.Nat.{ℕ, ◌≤◌, ◌+◌, ◌-◌, ◌*◌, ◌/◌}
use native.Mathlib.Nat.{mul-le-mul_left}
use native.Mathlib.Omega.{arith}
use lib.IntN.{ℤ, pos, nat_abs}
use Rattle.signed.specs.Range.{inside}
use Rattle.signed.proofs.Range.{inside-abs, inside-pos, pos-inside}
use Rattle.taps.specs.Interp.{taps2, phase, between}
use Rattle.taps.proofs.Laws.{clip-inside, clip-same}

module _ (M : ℕ) where
  abbrev In : ℤ → Type 0
  In z = inside (pos M) z ≡ true

  pub between-inside : (lum : Bool) (p : ℕ → ℤ) (q : ℕ) → In (between lum (pos M) p q)
  unfolding between
  between-inside true p q = clip-inside M _
  between-inside false p q = clip-inside M _

  natural : (f a b : ℕ) → f ≤ 32 → a ≤ M → b ≤ M → In (taps2 (pos (32 - f)) (pos f) (pos a) (pos b))
  unfolding taps2
  natural f a b h k l =
      let g : 32 - f + f ≡ 32 = omega arith in
      let x : (32 - f) * M + f * M ≡ 32 * M = omega (arith, ap (λ (n : ℕ). n * M) g) in
      pos-inside M (((32 - f) * a + f * b + 16) / 32) (omega (arith, mul-le-mul_left (32 - f) k, mul-le-mul_left f l))

  -- "two taps (32 - f) and f, + 16, >> 5"
  pub two-inside : (f : ℕ) (a b : ℤ) → f ≤ 32 → In a → In b → In (taps2 (pos (32 - f)) (pos f) a b)
  two-inside f a b h p q =
      (λ j. inside (pos M) (taps2 (pos (32 - f)) (pos f) (inside-pos M a p j) (inside-pos M b q j)))
      ∙ natural f (nat_abs a) (nat_abs b) h (inside-abs M a p) (inside-abs M b q)

  pub chroma-clip-never-acts : (p : ℕ → ℤ) (q : ℕ) → In (p (q / 64 + 1)) → In (p (q / 64 + 1 + 1))
      → between false (pos M) p q ≡ taps2 (pos (32 - phase q)) (pos (phase q)) (p (q / 64 + 1)) (p (q / 64 + 1 + 1))
  unfolding between
  chroma-clip-never-acts p q a b = clip-same M _ (two-inside (phase q) _ _ (omega arith) a b)
