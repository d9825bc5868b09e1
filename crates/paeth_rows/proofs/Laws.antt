-- Laws of the choice: it is one of the three, and the code's sum from the corner. Assumes nothing.
use mathlib.Core.Bool.{Bool, true, false, cond, ◌&&◌}
use mathlib.Core.Path.{◌≡◌}
use Prim.Native.Nat.{ℕ, ◌≤◌}
use native.Mathlib.Omega.{arith}
use lib.Dec.{leb}
use lib.IntN.{ℤ, pos, nat_abs, ◌+ℤ◌, ◌-ℤ◌}
use Rattle.signed.proofs.Parts.{same, add, sub}
use Rattle.paeth_rows.specs.Chosen.{by, chosen}

-- what holds of the three holds of the one that is chosen
pub one_of : (P : ℤ → Type 0) (l t k : ℤ) → P l → P t → P k → P (chosen l t k)
unfolding chosen
one_of P l t k pl pt pk = go (nat_abs (t -ℤ k)) (nat_abs (l -ℤ k)) (nat_abs (t -ℤ k +ℤ (l -ℤ k)))
  where
    either : (s : Bool) (x y : ℤ) → P x → P y → P (cond s x y)
    either true x y p q = p
    either false x y p q = q

    go : (p q r : ℕ) → P (by p q r l t k)
    go p q r = either (leb p q && leb p r) l _ pl (either (leb q r) t k pt pk)

pub chosen-small : (n : ℕ) (l t k : ℤ) → nat_abs l ≤ n → nat_abs t ≤ n → nat_abs k ≤ n → nat_abs (chosen l t k) ≤ n
chosen-small n l t k p q r = one_of (λ z. nat_abs z ≤ n) l t k p q r

-- z - 0 is z
pub less_none : (z : ℤ) → z -ℤ pos 0 ≡ z
less_none z = same _ _ (omega (arith, sub z (pos 0)))

-- a choice by how far l, t and k lie from k
pub from-corner : (p q r : Bool) (l t k : ℤ) → k +ℤ cond p (cond q (l -ℤ k) (cond r (t -ℤ k) (pos 0))) (cond r (t -ℤ k) (pos 0)) ≡ cond (p && q) l (cond r t k)
from-corner p q r l t k = go p q r
  where
    back : (z : ℤ) → k +ℤ (z -ℤ k) ≡ z
    back z = same _ _ (omega (arith, add k (z -ℤ k), sub z k))

    here : k +ℤ pos 0 ≡ k
    here = same _ _ (omega (arith, add k (pos 0)))

    go : (p q r : Bool) → k +ℤ cond p (cond q (l -ℤ k) (cond r (t -ℤ k) (pos 0))) (cond r (t -ℤ k) (pos 0)) ≡ cond (p && q) l (cond r t k)
    go true true r = back l
    go true false true = back t
    go true false false = here
    go false q true = back t
    go false q false = here
