-- Laws of Paeth: the rows' choice is the definition's, since none of the three distances needs b; and a prediction lies in 0..M. Assumes nothing.
use mathlib.Core.Bool.{true}
use mathlib.Core.Path.{◌≡◌, ap}
use Prim.Native.Nat.{ℕ}
use native.Mathlib.Omega.{arith}
use lib.IntN.{ℤ, pos, nat_abs, ◌+ℤ◌, ◌-ℤ◌}
use Rattle.signed.specs.Range.{inside}
use Rattle.signed.proofs.Parts.{same, add, sub}
use Rattle.paeth_rows.specs.Chosen.{chosen}
use Rattle.paeth_rows.proofs.Laws.{one_of}
use Rattle.paeth.specs.Paeth.{dist, paeth}

module _ (l t k : ℤ) where
  -- |b - l| is |t - k|, and |b - t| is |l - k|
  left-dist : dist (l +ℤ t -ℤ k) l ≡ dist t k
  left-dist =
      let e : l +ℤ t -ℤ k -ℤ l ≡ t -ℤ k = same _ _ (omega (arith, sub (l +ℤ t -ℤ k) l, sub (l +ℤ t) k, add l t, sub t k)) in ap nat_abs e

  top-dist : dist (l +ℤ t -ℤ k) t ≡ dist l k
  top-dist =
      let e : l +ℤ t -ℤ k -ℤ t ≡ l -ℤ k = same _ _ (omega (arith, sub (l +ℤ t -ℤ k) t, sub (l +ℤ t) k, add l t, sub l k)) in ap nat_abs e

  -- |b - k| is |x + y| with x = t - k and y = l - k
  corner-dist : dist (l +ℤ t -ℤ k) k ≡ nat_abs (t -ℤ k +ℤ (l -ℤ k))
  corner-dist =
      let e : l +ℤ t -ℤ k -ℤ k ≡ t -ℤ k +ℤ (l -ℤ k) = same _ _ (omega (arith, sub (l +ℤ t -ℤ k) k, sub (l +ℤ t) k, add l t, add (t -ℤ k) (l -ℤ k), sub t k, sub l k)) in ap nat_abs e

  pub paeth-is : paeth l t k ≡ chosen l t k
  unfolding paeth chosen
  paeth-is = rw (left-dist, top-dist, corner-dist)

-- predictions lie in 0..M
pub paeth-inside : (M : ℕ) (l t k : ℤ) → inside (pos M) l ≡ true → inside (pos M) t ≡ true → inside (pos M) k ≡ true → inside (pos M) (paeth l t k) ≡ true
paeth-inside M l t k p q r = rw (paeth-is l t k) (one_of (λ z. inside (pos M) z ≡ true) l t k p q r)
