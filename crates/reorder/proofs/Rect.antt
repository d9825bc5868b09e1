-- Two rectangles share a sample exactly when their columns overlap and their rows overlap. Assumes nothing.
use mathlib.Core.Path.{◌≡◌, refl, sym, ◌∙◌}
use mathlib.Core.Logic.Iff
use mathlib.Core.Bool.{false, ◌&&◌}
use Prim.Native.Nat.{ℕ, zero, ◌+◌, ◌*◌, ◌/◌, ◌%◌, ◌≤◌, ◌<◌, min, max}
use native.Mathlib.Nat.{mul-le-mul_right, div-add-mod', mod-lt}
use native.Mathlib.Decide.{dec_lt}
use native.Mathlib.Omega.{arith}
use lib.Dec.{ltb, leb}
use borrow.Author.Tests.{lt-ltb, le-ltb}
use Rattle.reorder.specs.Test.{Decides}
use Rattle.reorder.specs.Rect.{Rect, Wide, In, in_b, meet_b, Shared}
use Rattle.reorder.proofs.Test.{lt-decides, le-decides, and-decides}

-- a place has one row and one column
row-le : (W r c r' c' : ℕ) → c' < W → r * W + c ≡ r' * W + c' → r ≤ r'
row-le W r c r' c' h e = elim (dec_lt r' r) [
  | yes k ↦ absurd (omega (arith, mul-le-mul_right W k))
  | no k ↦ omega arith
]

pub same_row : (W r c r' c' : ℕ) → c < W → c' < W → r * W + c ≡ r' * W + c' → r ≡ r'
same_row W r c r' c' h h' e = omega (arith, row-le W r c r' c' h' e, row-le W r' c' r c h (sym e))

pub same-col : (W r c r' c' : ℕ) → c < W → c' < W → r * W + c ≡ r' * W + c' → c ≡ c'
same-col W r c r' c' h h' e = omega (arith, rw (same_row W r c r' c' h h' e) at e)

-- ---- one place

pub in-decides : (W : ℕ) (R : Rect) → Wide W R → (p : ℕ) → Decides (in_b W R p) (In W R p)
unfolding in_b
in-decides W R wide p = Iff.trans tests (to, from)
  where
    tests : Decides ((leb R.y (p / W) && ltb (p / W) (R.y + R.h)) && (leb R.x (p % W) && ltb (p % W) (R.x + R.w)))
        (((R.y ≤ p / W) × (p / W < R.y + R.h)) × ((R.x ≤ p % W) × (p % W < R.x + R.w)))
    tests = and-decides _ _ _ _ (and-decides _ _ _ _ (le-decides _ _) (lt-decides _ _)) (and-decides _ _ _ _ (le-decides _ _) (lt-decides _ _))

    to : ((R.y ≤ p / W) × (p / W < R.y + R.h)) × ((R.x ≤ p % W) × (p % W < R.x + R.w)) → In W R p
    to h = record { row = p / W; col = p % W; top = h.0.0; bottom = h.0.1; left = h.1.0; right = h.1.1; place = sym (div-add-mod' p W) }

    from : In W R p → ((R.y ≤ p / W) × (p / W < R.y + R.h)) × ((R.x ≤ p % W) × (p % W < R.x + R.w))
    from i =
        let pos : zero < W = omega arith in
        let e : p / W * W + p % W ≡ i.row * W + i.col = div-add-mod' p W ∙ i.place in
        let r : p / W ≡ i.row = same_row W (p / W) (p % W) i.row i.col (mod-lt p pos) (omega arith) e in
        let c : p % W ≡ i.col = same-col W (p / W) (p % W) i.row i.col (mod-lt p pos) (omega arith) e in
        rw (r, c) ((i.top, i.bottom), (i.left, i.right))

-- ---- two rectangles

pub meet-decides : (W : ℕ) (A B : Rect) → Wide W A → Wide W B → Decides (meet_b A B) (Shared W A B)
unfolding meet_b
meet-decides W A B wa wb = Iff.trans (and-decides _ _ _ _ (lt-decides _ _) (lt-decides _ _)) (to, from)
  where
    to : (max A.x B.x < min (A.x + A.w) (B.x + B.w)) × (max A.y B.y < min (A.y + A.h) (B.y + B.h)) → Shared W A B
    to h =
        let c : ℕ = max A.x B.x in
        let r : ℕ = max A.y B.y in (
          r * W + c,
          record { row = r; col = c; top = omega arith; bottom = omega arith; left = omega arith; right = omega arith; place = refl },
          record { row = r; col = c; top = omega arith; bottom = omega arith; left = omega arith; right = omega arith; place = refl },
        )

    from : Shared W A B → (max A.x B.x < min (A.x + A.w) (B.x + B.w)) × (max A.y B.y < min (A.y + A.h) (B.y + B.h))
    from (p, i, j) =
        let e : i.row * W + i.col ≡ j.row * W + j.col = sym i.place ∙ j.place in
        let r : i.row ≡ j.row = same_row W i.row i.col j.row j.col (omega arith) (omega arith) e in
        let c : i.col ≡ j.col = same-col W i.row i.col j.row j.col (omega arith) (omega arith) e in
        omega arith

-- which of the two comes first makes no difference
pub meet-swapped : (A B : Rect) → meet_b A B ≡ meet_b B A
unfolding meet_b
meet-swapped A B =
    let left : max A.x B.x ≡ max B.x A.x = omega arith in
    let right : min (A.x + A.w) (B.x + B.w) ≡ min (B.x + B.w) (A.x + A.w) = omega arith in
    let top : max A.y B.y ≡ max B.y A.y = omega arith in
    let bottom : min (A.y + A.h) (B.y + B.h) ≡ min (B.y + B.h) (A.y + A.h) = omega arith in
    λ i. ltb (left i) (right i) && ltb (top i) (bottom i)

-- the same test by code that has its rectangles in locals: the columns are tried first, then the rows. `lx` is where the shared columns begin and
-- `sx` where they end, and so for the rows
module _ (A B : Rect) (lx sx : ℕ) (el : lx ≡ max A.x B.x) (es : sx ≡ min (A.x + A.w) (B.x + B.w)) where
  pub meet-then : (ly sy : ℕ) → ly ≡ max A.y B.y → sy ≡ min (A.y + A.h) (B.y + B.h) → lx < sx → ltb ly sy ≡ meet_b A B
  unfolding meet_b
  meet-then ly sy fl fs h = rw (← el, ← es, ← fl, ← fs, lt-ltb lx sx h)

  pub meet-else : sx ≤ lx → false ≡ meet_b A B
  unfolding meet_b
  meet-else h = rw (← el, ← es, le-ltb lx sx h)
