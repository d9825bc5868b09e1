-- Laws of numbers in 0..m. Assumes nothing.
use mathlib.Core.Path.{◌≡◌, refl, sym}
use mathlib.Core.Bool.{Bool, true, false, ◌&&◌, true≢false}
use mathlib.Core.List.{List}
use mathlib.Core.Logic.{⊎_elim}
use Prim.Native.Nat.{ℕ, zero, suc, ◌≤◌, ◌<◌}
use native.Mathlib.Nat.{eq-or-lt_of_le, le_of_suc-le-suc}
use native.Mathlib.Omega.{arith}
use lib.IntN.{ℤ, pos, negsuc, nat_abs}
use lib.ListN.{get_or}
use borrow.Author.Tests.{leb-true, le-leb}
use Rattle.signed.specs.Range.{inside, all_inside}

pub and_both : (a b : Bool) → (a && b) ≡ true → (a ≡ true) × (b ≡ true)
and_both true b e = (refl, e)
and_both false b e = absurd (true≢false (sym e))

pub inside-abs : (m : ℕ) (z : ℤ) → inside (pos m) z ≡ true → nat_abs z ≤ m
unfolding inside
inside-abs m (pos n) e = leb-true n m e
inside-abs m (negsuc n) e = absurd (true≢false (sym e))

-- it is the natural number of its size
pub inside-pos : (m : ℕ) (z : ℤ) → inside (pos m) z ≡ true → z ≡ pos (nat_abs z)
unfolding inside
inside-pos m (pos n) e = refl
inside-pos m (negsuc n) e = absurd (true≢false (sym e))

pub pos-inside : (m n : ℕ) → n ≤ m → inside (pos m) (pos n) ≡ true
unfolding inside
pos-inside m n h = le-leb n m h

pub inside-more : (m n : ℕ) → m ≤ n → (z : ℤ) → inside (pos m) z ≡ true → inside (pos n) z ≡ true
unfolding inside
inside-more m n h (pos k) e = let l = leb-true k m e in le-leb k n (omega arith)
inside-more m n h (negsuc k) e = e

pub all-inside-at : (m : ℤ) (xs : List ℤ) (n : ℕ) → all_inside m xs n ≡ true → (i : ℕ) → i < n → inside m (get_or xs i (pos 0)) ≡ true
unfolding all_inside
all-inside-at m xs zero e i h = absurd (omega arith)
all-inside-at m xs (suc n) e i h =
    let p = and_both (all_inside m xs n) (inside m (get_or xs n (pos 0))) e in
    ⊎_elim (λ q. rw q p.1) (λ l. all-inside-at m xs n p.0 i l) (eq-or-lt_of_le (le_of_suc-le-suc h))
