-- Laws of binary digits: numbers whose digits are joined are all below a power of two, or the whole is not. Assumes nothing.
use mathlib.Core.Path.{◌≡◌, refl, sym, ◌∙◌, ap}
use mathlib.Core.Bool.{Bool, true, false, ◌&&◌}
use Prim.Native.Nat.{ℕ, suc, ◌+◌, ◌-◌, ◌*◌, ◌^◌, ◌≤◌}
use native.Mathlib.Omega.{arith}
use native.Mathlib.Nat as N
use lib.Bits.{bit_or, or_lt, or_add_and, and_le_l, and_le_r}
use lib.Dec.{ltb, leb}
use lib.IntN.{ℤ, pos}
use mir.Syntax.{w32}
use mir.Val.{SFits, to_z, of_z}
use borrow.Author.Tests.{lt-ltb, le-ltb, le-leb, lt-leb, ltb-true, ltb-false}
use Rattle.numbers.specs.Depth.{most}
use Rattle.signed.specs.Range.{inside}
use Rattle.signed.proofs.Bound.{back, back-pos}
use Rattle.signed.proofs.Naturals.{pow-le}

-- ---- a number of 32 digits is in 0..2^k-1 exactly when its digits are below 2^k
inside-digits : (k n : ℕ) → k ≤ 31 → inside (pos (2 ^ k - 1)) (to_z w32 n) ≡ ltb n (2 ^ k)
unfolding inside
inside-digits k n h = go (ltb n (2 ^ 31)) refl
  where
    below : (t : Bool) → ltb n (2 ^ k) ≡ t → leb n (2 ^ k - 1) ≡ t
    below true e = le-leb n (2 ^ k - 1) (omega (arith, ltb-true n (2 ^ k) e))
    below false e = lt-leb n (2 ^ k - 1) (omega (arith, ltb-false n (2 ^ k) e, N.one-le-pow k 2 (N.zero-lt-suc 1)))

    go : (t : Bool) → ltb n (2 ^ 31) ≡ t → inside (pos (2 ^ k - 1)) (to_z w32 n) ≡ ltb n (2 ^ k)
    go true e = simp (back-pos w32 n (ltb-true n (2 ^ 31) e)) (below (ltb n (2 ^ k)) refl)
    go false e =
        rw e (sym (le-ltb n (2 ^ k) (omega (arith, ltb-false n (2 ^ 31) e, pow-le {i = k} {j = 31} h))))

or-below : (k a b : ℕ) → ltb (bit_or a b) (2 ^ k) ≡ (ltb a (2 ^ k) && ltb b (2 ^ k))
or-below k a b = go (ltb a (2 ^ k)) (ltb b (2 ^ k)) refl refl
  where
    go : (s t : Bool) → ltb a (2 ^ k) ≡ s → ltb b (2 ^ k) ≡ t → ltb (bit_or a b) (2 ^ k) ≡ (s && t)
    go true true d e = lt-ltb _ _ (or_lt k a b (ltb-true _ _ d) (ltb-true _ _ e))
    go true false d e = le-ltb (bit_or a b) (2 ^ k) (omega (arith, ltb-false b (2 ^ k) e, or_add_and a b, and_le_l a b))
    go false t d e = le-ltb (bit_or a b) (2 ^ k) (omega (arith, ltb-false a (2 ^ k) d, or_add_and a b, and_le_r a b))

-- ---- the digits of numbers, joined
module _ (k : ℕ) (h : k ≤ 31) where
  abbrev In : ℤ → Bool
  In = inside (pos (2 ^ k - 1))

  in_is : (z : ℤ) → SFits w32 z → ltb (of_z w32 z) (2 ^ k) ≡ In z
  in_is z f = sym (inside-digits k (of_z w32 z) h) ∙ ap In (back w32 f)

  pub two-joined : (a b : ℤ) → SFits w32 a → SFits w32 b → In (to_z w32 (bit_or (of_z w32 a) (of_z w32 b))) ≡ (In a && In b)
  two-joined a b fa fb =
      inside-digits k (bit_or (of_z w32 a) (of_z w32 b)) h ∙ or-below k (of_z w32 a) (of_z w32 b) ∙ (λ j. in_is a fa j && in_is b fb j)

  pub three-joined : (a b c : ℤ) → SFits w32 a → SFits w32 b → SFits w32 c
      → In (to_z w32 (bit_or (bit_or (of_z w32 a) (of_z w32 b)) (of_z w32 c))) ≡ ((In a && In b) && In c)
  three-joined a b c fa fb fc =
      inside-digits k (bit_or (bit_or (of_z w32 a) (of_z w32 b)) (of_z w32 c)) h
      ∙ or-below k (bit_or (of_z w32 a) (of_z w32 b)) (of_z w32 c)
      ∙ ap (λ t. t && ltb (of_z w32 c) (2 ^ k)) (or-below k (of_z w32 a) (of_z w32 b))
      ∙ (λ j. (in_is a fa j && in_is b fb j) && in_is c fc j)

-- "0..8M+7"
pub top-is : (D : ℕ) → 8 * most D + 7 ≡ 2 ^ suc (suc (suc D)) - 1
top-is D = omega (arith, N.pow-succ' 2 (suc (suc D)), N.pow-succ' 2 (suc D), N.pow-succ' 2 D, N.one-le-pow D 2 (N.zero-lt-suc 1))
