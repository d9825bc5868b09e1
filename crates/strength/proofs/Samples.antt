-- The corner that zone 2 takes is a sample: its three weights' sum is 16 (document 01, Directions). Assumes nothing.
use mathlib.Core.Path.{◌≡◌, ◌∙◌}
use mathlib.Core.Bool.{Bool, true, false, cond, ◌&&◌}
use Prim.Native.Nat.{ℕ, ◌+◌, ◌*◌, ◌/◌, ◌≤◌}
use native.Mathlib.Omega.{arith}
use lib.Dec.{leb}
use lib.IntN.{ℤ, pos, ◌+ℤ◌, ◌*ℤ◌}
use lib.Signed.{shr_z}
use Rattle.signed.specs.Range.{inside}
use Rattle.signed.proofs.Range.{inside-abs, inside-pos, pos-inside}
use Rattle.strength.specs.Corner.{filtered_corner}

natural : (v l k a : ℕ) → l ≤ v → k ≤ v → a ≤ v
    → inside (pos v) (shr_z (pos 5 *ℤ pos l +ℤ pos 6 *ℤ pos k +ℤ pos 5 *ℤ pos a +ℤ pos 8) 16) ≡ true
natural v l k a hl hk ha = pos-inside v ((5 * l + 6 * k + 5 * a + 8) / 16) (omega arith)

pub corner-inside : (v : ℕ) (filter : Bool) (wh : ℕ) (l k a : ℤ) → inside (pos v) l ≡ true → inside (pos v) k ≡ true → inside (pos v) a ≡ true
    → inside (pos v) (filtered_corner filter wh l k a) ≡ true
unfolding filtered_corner
corner-inside v filter wh l k a p q r = pick (filter && leb 24 wh)
  where
    sum : inside (pos v) (shr_z (pos 5 *ℤ l +ℤ pos 6 *ℤ k +ℤ pos 5 *ℤ a +ℤ pos 8) 16) ≡ true
    sum =
        (λ j. inside (pos v)
        (shr_z (pos 5 *ℤ inside-pos v l p j +ℤ pos 6 *ℤ inside-pos v k q j +ℤ pos 5 *ℤ inside-pos v a r j +ℤ pos 8) 16))
        ∙ natural v _ _ _ (inside-abs v l p) (inside-abs v k q) (inside-abs v a r)

    pick : (t : Bool) → inside (pos v) (cond t (shr_z (pos 5 *ℤ l +ℤ pos 6 *ℤ k +ℤ pos 5 *ℤ a +ℤ pos 8) 16) k) ≡ true
    pick true = sum
    pick false = q
