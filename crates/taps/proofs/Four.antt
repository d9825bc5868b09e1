-- The tables of taps: chroma's in 128ths give what its two taps give, and all taps are small. Assumes nothing.
use mathlib.Core.Bool.{Bool, true, false}
use mathlib.Core.Path.{◌≡◌, sym, ◌∙◌, ap, subst}
use mathlib.Core.List.{List, []}
use Prim.Native.Nat.{ℕ, ◌≤◌, ◌<◌, ◌+◌, ◌-◌, ◌*◌, ◌/◌}
use native.Mathlib.Omega.{arith}
use lib.IntN.{ℤ, pos, nat_abs}
use lib.ListN.{get_or}
use Rattle.signed.specs.Range.{inside}
use Rattle.signed.proofs.Range.{inside-pos}
use Rattle.lists.proofs.Fill.{tab-at}
use Rattle.taps.specs.Interp.{clip, taps4, taps2, luma, phase, between, Taps}
use Rattle.taps.specs.Quads.{twos, table_of, tap, tapped}
use Rattle.taps.proofs.Laws.{between-luma, between-chroma}
use Rattle.taps.proofs.Taps.{f4-taps}

pub tap-small : (lum : Bool) (f : ℕ) → f < 32 → Taps (tap (table_of lum) f 0) (tap (table_of lum) f 1) (tap (table_of lum) f 2) (tap (table_of lum) f 3)
tap-small true f h = f4-taps f h
tap-small false f h =
    subst (λ (l : List ℤ). Taps (get_or l 0 (pos 0)) (get_or l 1 (pos 0)) (get_or l 2 (pos 0)) (get_or l 3 (pos 0)))
    (sym (tab-at 32 twos f [] h)) (record { t0 = omega arith; t1 = omega arith; t2 = omega arith; t3 = omega arith })

-- four times the numerator over four times the denominator
natural : (f a b c d : ℕ) → f ≤ 32 → taps4 (pos 0) (pos (128 - 4 * f)) (pos (4 * f)) (pos 0) (pos a) (pos b) (pos c) (pos d) ≡ taps2 (pos (32 - f)) (pos f) (pos b) (pos c)
unfolding taps4 taps2
natural f a b c d h = ap pos (quarter ((32 - f) * b + f * c) (0 * a + (128 - 4 * f) * b + 4 * f * c + 0 * d) (omega (arith, ap (λ (x : ℕ). x * b) part)))
  where
    part : 128 - 4 * f ≡ 4 * (32 - f)
    part = omega arith

    quarter : (n m : ℕ) → m ≡ 4 * n → (m + 64) / 128 ≡ (n + 16) / 32
    quarter n m e = omega arith

two-as-four : (M : ℤ) (f : ℕ) (a b c d : ℤ) → f ≤ 32 → inside (pos 4095) a ≡ true → inside (pos 4095) b ≡ true → inside (pos 4095) c ≡ true → inside (pos 4095) d ≡ true
    → clip M (taps4 (pos 0) (pos (128 - 4 * f)) (pos (4 * f)) (pos 0) a b c d) ≡ clip M (taps2 (pos (32 - f)) (pos f) b c)
two-as-four M f a b c d h p q r s =
    (λ j. clip M (taps4 (pos 0) (pos (128 - 4 * f)) (pos (4 * f)) (pos 0) (inside-pos 4095 a p j) (inside-pos 4095 b q j) (inside-pos 4095 c r j) (inside-pos 4095 d s j)))
    ∙ ap (clip M) (natural f (nat_abs a) (nat_abs b) (nat_abs c) (nat_abs d) h)
    ∙ (λ j. clip M (taps2 (pos (32 - f)) (pos f) (sym (inside-pos 4095 b q) j) (sym (inside-pos 4095 c r) j)))

-- four entries that are samples
pub tapped-is : (lum : Bool) (M : ℤ) (p : ℕ → ℤ) (q i : ℕ) → ((k : ℕ) → q / 64 + i ≤ k → k < q / 64 + i + 4 → inside (pos 4095) (p k) ≡ true)
    → tapped (table_of lum) M (phase q) p (q / 64 + i) ≡ between lum M p (q + 64 * i)
tapped-is true M p q i h = between-luma M p q i
tapped-is false M p q i h =
    ap (λ (l : List ℤ). luma M (get_or l 0 (pos 0)) (get_or l 1 (pos 0)) (get_or l 2 (pos 0)) (get_or l 3 (pos 0)) p (q / 64 + i)) (tab-at 32 twos (phase q) [] (omega arith))
    ∙ two-as-four M (phase q) (p (q / 64 + i)) (p (q / 64 + i + 1)) (p (q / 64 + i + 2)) (p (q / 64 + i + 3)) (omega arith)
    (h (q / 64 + i) (omega arith) (omega arith)) (h (q / 64 + i + 1) (omega arith) (omega arith)) (h (q / 64 + i + 2) (omega arith) (omega arith)) (h (q / 64 + i + 3) (omega arith) (omega arith))
    ∙ (λ j. clip M (taps2 (pos (32 - phase q)) (pos (phase q)) (p (first j)) (p (second j))))
    ∙ between-chroma M p q i
  where
    first : q / 64 + i + 1 ≡ q / 64 + 1 + i
    first = omega arith

    second : q / 64 + i + 2 ≡ q / 64 + 1 + i + 1
    second = omega arith
