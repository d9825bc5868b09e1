-- Natural numbers: which of two is less, powers of two, and the last twelve binary digits. Assumes nothing.
use mathlib.Core.Path.{◌≡◌, refl, ◌∙◌, ap}
use mathlib.Core.Bool.{Bool, true, false}
use mathlib.Core.Logic.{◌⊎◌, inl, inr, ⊎_elim}
use Prim.Native.Nat.{ℕ, ◌^◌, ◌≤◌, ◌<◌}
use native.Mathlib.Omega.{arith}
use native.Mathlib.Nat as N
use lib.Bits.{bit_and, and_mask, mask_lt}
use lib.Dec.{leb}
use lib.IntN.{ℤ, pos, nat_abs}
use mir.Syntax.{w32}
use mir.Val.{to_z, of_z}
use borrow.Author.Tests.{leb-true, leb-false}
use Rattle.signed.specs.Range.{inside}
use Rattle.signed.proofs.Range.{inside-abs, inside-pos}
use Rattle.signed.proofs.Bound.{back-pos}

pub either : (m n : ℕ) → (m ≤ n) ⊎ (n < m)
either m n = go (leb m n) refl
  where
    go : (t : Bool) → leb m n ≡ t → (m ≤ n) ⊎ (n < m)
    go true h = inl (leb-true m n h)
    go false h = inr (leb-false m n h)

pub pow-le : {i j : ℕ} → i ≤ j → 2 ^ i ≤ 2 ^ j
pow-le h = N.pow-le-pow_right (N.zero-lt-suc 1) h

pub pow_below : (i k : ℕ) → 2 ^ i < 2 ^ k → i < k
pow_below i k h = ⊎_elim (λ (l : k ≤ i). let g = pow-le {i = k} {j = i} l in absurd (omega arith)) (λ l. l) (either k i)

-- ---- the last twelve digits
pub low-back : (z : ℤ) → to_z w32 (bit_and (of_z w32 z) 4095) ≡ pos (bit_and (of_z w32 z) 4095)
low-back z = back-pos w32 _ (omega (arith, mask_lt (of_z w32 z) 12))

pub low-most : (n : ℕ) → bit_and n 4095 ≤ 4095
low-most n = omega (arith, mask_lt n 12)

pub low-all : (n : ℕ) → n ≤ 4095 → bit_and n 4095 ≡ n
low-all n h = and_mask n 12 ∙ N.mod-eq_of_lt (omega arith)

pub low-is : (z : ℤ) → inside (pos 4095) z ≡ true → bit_and (of_z w32 z) 4095 ≡ nat_abs z
low-is z e =
    ap (λ (x : ℤ). bit_and (of_z w32 x) 4095) (inside-pos 4095 z e) ∙ low-all (nat_abs z) (inside-abs 4095 z e)
