-- Where all entries that a sample reads are the same, the sample is that entry: the taps sum to 128, or to 32. Assumes nothing.
use mathlib.Core.Bool.{Bool, true, false}
use mathlib.Core.Path.{◌≡◌, ◌∙◌, ap}
use Prim.Native.Nat.{ℕ, ◌≤◌, ◌<◌, ◌+◌, ◌-◌, ◌*◌, ◌/◌}
use native.Mathlib.Omega.{arith}
use lib.IntN.{ℤ, pos, ◌+ℤ◌, ◌*ℤ◌}
use lib.Arith.{digits_div}
use lib.Signed.{shr_z}
use Rattle.signed.specs.Range.{inside}
use Rattle.signed.proofs.Parts.{up, dn, same, add, mul}
use Rattle.taps.specs.F4.{f4}
use Rattle.taps.specs.Interp.{clip, taps4, taps2, phase, between}
use Rattle.taps.proofs.Laws.{clip-same}
use Rattle.taps.proofs.Taps.{f4-sum}

-- a multiple of m and less than half of it, shifted
whole : (v h m : ℕ) → h < m → (v * m + h) / m ≡ v
whole v h m l = digits_div v {m = m} {r = h} l

spread : (f0 f1 f2 f3 : ℤ) (v : ℕ) → f0 +ℤ f1 +ℤ f2 +ℤ f3 ≡ pos 128
    → f0 *ℤ pos v +ℤ f1 *ℤ pos v +ℤ f2 *ℤ pos v +ℤ f3 *ℤ pos v ≡ pos (v * 128)
spread f0 f1 f2 f3 v e =
    same _ _ (omega (
      arith,
      mul f0 v,
      mul f1 v,
      mul f2 v,
      mul f3 v,
      ap (λ (x : ℕ). x * v) sums,
      add (f0 *ℤ pos v) (f1 *ℤ pos v),
      add (f0 *ℤ pos v +ℤ f1 *ℤ pos v) (f2 *ℤ pos v),
      add (f0 *ℤ pos v +ℤ f1 *ℤ pos v +ℤ f2 *ℤ pos v) (f3 *ℤ pos v),
    ))
  where
    sums : up f0 + up f1 + up f2 + up f3 ≡ dn f0 + dn f1 + dn f2 + dn f3 + 128
    sums = omega (arith, add f0 f1, add (f0 +ℤ f1) f2, add (f0 +ℤ f1 +ℤ f2) f3, ap up e, ap dn e)

flat4 : (f0 f1 f2 f3 : ℤ) (v : ℕ) → f0 +ℤ f1 +ℤ f2 +ℤ f3 ≡ pos 128 → taps4 f0 f1 f2 f3 (pos v) (pos v) (pos v) (pos v) ≡ pos v
unfolding taps4
flat4 f0 f1 f2 f3 v e = ap (λ (z : ℤ). shr_z (z +ℤ pos 64) 128) (spread f0 f1 f2 f3 v e) ∙ ap pos (whole v 64 128 (omega arith))

flat2 : (f v : ℕ) → f ≤ 32 → taps2 (pos (32 - f)) (pos f) (pos v) (pos v) ≡ pos v
unfolding taps2
flat2 f v h = ap (λ (n : ℕ). pos ((n + 16) / 32)) all ∙ ap pos (whole v 16 32 (omega arith))
  where
    all : (32 - f) * v + f * v ≡ v * 32
    all = omega (arith, ap (λ (n : ℕ). n * v) split)
      where
        split : 32 - f + f ≡ 32
        split = omega arith

-- ---- a sample: all entries from the base on are the same
pub between-flat : (lum : Bool) (M : ℕ) (p : ℕ → ℤ) (q v : ℕ) → inside (pos M) (pos v) ≡ true → ((k : ℕ) → q / 64 ≤ k → p k ≡ pos v) → between lum (pos M) p q ≡ pos v
unfolding between
between-flat true M p q v h at =
    (λ j. clip (pos M) (taps4 (f4 (phase q) 0) (f4 (phase q) 1) (f4 (phase q) 2) (f4 (phase q) 3) (at (q / 64) (omega arith) j) (at (q / 64 + 1) (omega arith) j) (at (q / 64 + 2) (omega arith) j) (at (q / 64 + 3) (omega arith) j)))
    ∙ ap (clip (pos M)) (flat4 _ _ _ _ v (f4-sum (phase q) (omega arith)))
    ∙ clip-same M (pos v) h
between-flat false M p q v h at =
    (λ j. clip (pos M) (taps2 (pos (32 - phase q)) (pos (phase q)) (at (q / 64 + 1) (omega arith) j) (at (q / 64 + 1 + 1) (omega arith) j)))
    ∙ ap (clip (pos M)) (flat2 (phase q) v (omega arith))
    ∙ clip-same M (pos v) h
