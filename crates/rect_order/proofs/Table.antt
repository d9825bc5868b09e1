-- A table of rectangles, for a caller: how one is filled, and what its test comes to. A clash of two rows is the same either way round. Assumes
-- nothing.
use mathlib.Core.Path.{◌≡◌}
use mathlib.Core.List.{List}
use Prim.Native.Nat.{ℕ, ◌+◌, ◌*◌, ◌-◌, ◌<◌}
use native.Mathlib.Decide.{ℕ_discrete}
use native.Mathlib.Omega.{arith}
use lib.IntN.{ℤ, pos, nat_abs}
use lib.ListN.{length, get_or, set, replicate}
use lib.Seq.{get_or-set_same, get_or-set_other}
use Rattle.reorder.specs.Rect.{Rect, clash_b}
use Rattle.reorder.specs.Check.{kept_b}
use Rattle.reorder.proofs.Check.{kept_same}
use Rattle.reorder.proofs.Cross.{clash-swapped}
use Rattle.each_once.proofs.Seen.{all_same}
use Rattle.rect_order.specs.Table.{rect_in, writes_in, reads_in, clash_in, Plain}

-- ---- no number is negative

pub plain-zeros : (n : ℕ) → Plain (replicate n (pos 0))
plain-zeros n p = rw (all_same (pos 0) n p)

pub plain-set : (list : List ℤ) (p : ℕ) (z : ℤ) → p < length list → z ≡ pos (nat_abs z) → Plain list → Plain (set list p z)
plain-set list p z h e plain q = elim (ℕ_discrete q p) [
  | yes s ↦ rw s (rw (get_or-set_same list p z (pos 0) h) e)
  | no ne ↦ rw (get_or-set_other list p q z (pos 0) ne) (plain q)
]

-- ---- the four numbers of a rectangle stand for it

pub rect-is : (table : List ℤ) (i k : ℕ) (R : Rect)
    → get_or table (24 * i + 4 * k) (pos 0) ≡ pos R.x → get_or table (24 * i + 4 * k + 1) (pos 0) ≡ pos (R.x + R.w)
    → get_or table (24 * i + 4 * k + 2) (pos 0) ≡ pos R.y → get_or table (24 * i + 4 * k + 3) (pos 0) ≡ pos (R.y + R.h)
    → rect_in table i k ≡ R
rect-is table i k R x0 x1 y0 y1 =
    let w : R.x + R.w - R.x ≡ R.w = omega arith in
    let h : R.y + R.h - R.y ≡ R.h = omega arith in
    rw (x0, x1, y0, y1) (λ j. record { x = R.x; y = R.y; w = w j; h = h j })

-- ---- clashes

pub clash-turned : (table : List ℤ) (i j : ℕ) → clash_in table i j ≡ clash_in table j i
unfolding clash_in
clash-turned table i j = clash-swapped _ _ _ _

-- where the table holds what rows read and write, its test is theirs
pub kept_for : (table : List ℤ) (n : ℕ) (reads writes : ℕ → List Rect)
    → ((i : ℕ) → i < n → reads_in table i ≡ reads i) → ((i : ℕ) → i < n → writes_in table i ≡ writes i)
    → (order : List ℕ) → kept_b (clash_in table) n order ≡ kept_b (λ i j. clash_b (reads i) (writes i) (reads j) (writes j)) n order
unfolding clash_in
kept_for table n reads writes r w order =
    kept_same _ _ n (λ i j h k m. clash_b (r i (omega arith) m) (w i (omega arith) m) (r j k m) (w j k m)) order
