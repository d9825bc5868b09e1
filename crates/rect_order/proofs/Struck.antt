-- What the columns tell of a row: if it is entered, whether it clashes; if not, nothing strikes it. Assumes nothing.
use mathlib.Core.Path.{◌≡◌, refl, sym, ◌∙◌, ap}
use mathlib.Core.Logic.{inl, inr}
use mathlib.Core.Bool.{Bool, true, false, ◌||◌, or-false, true≢false}
use mathlib.Core.List.{List, [], ◌∷◌}
use Prim.Native.Nat.{ℕ, zero, suc, ◌+◌, ◌*◌, ◌≤◌, ◌<◌}
use native.Mathlib.Omega.{arith}
use lib.IntN.{ℤ}
use Rattle.reorder.specs.Rect.{Rect, meet_b, meet_any_b, cross_b, clash_b}
use Rattle.reorder.proofs.Rect.{meet-swapped}
use Rattle.reorder.proofs.Cross.{cross-one}
use Rattle.rect_order.specs.Table.{rect_in, reads_in, clash_in}
use Rattle.rect_order.specs.Columns.{rect_at, Struck}
use Rattle.rect_order.proofs.Rows.{InColumns, NotInColumns, rect-entered, meets-empty}

-- ---- the first rectangle of a row is what it writes, the five others are what it reads

or_right : (a b : Bool) → b ≡ true → (a || b) ≡ true
or_right true b e = refl
or_right false b e = e

not_so : (b : Bool) → ¬ (b ≡ true) → b ≡ false
not_so true n = absurd (n refl)
not_so false n = refl

module _ (A : Rect) (f : ℕ → Rect) where
  abbrev five : List Rect
  five = f 1 ∷ f 2 ∷ f 3 ∷ f 4 ∷ f 5 ∷ []

  any_of : (k : ℕ) → 1 ≤ k → k < 6 → meet_b A (f k) ≡ true → meet_any_b A five ≡ true
  unfolding meet_any_b
  any_of zero l h e = absurd (omega arith)
  any_of (suc zero) l h e = rw e
  any_of (suc (suc zero)) l h e = or_right (meet_b A (f 1)) _ (rw e)
  any_of (suc (suc (suc zero))) l h e = or_right (meet_b A (f 1)) _ (or_right (meet_b A (f 2)) _ (rw e))
  any_of (suc (suc (suc (suc zero)))) l h e = or_right (meet_b A (f 1)) _ (or_right (meet_b A (f 2)) _ (or_right (meet_b A (f 3)) _ (rw e)))
  any_of (suc (suc (suc (suc (suc zero))))) l h e =
      or_right (meet_b A (f 1)) _ (or_right (meet_b A (f 2)) _ (or_right (meet_b A (f 3)) _ (or_right (meet_b A (f 4)) _ (rw e))))
  any_of (suc (suc (suc (suc (suc (suc k)))))) l h e = absurd (omega arith)

  none_of : ((k : ℕ) → 1 ≤ k → k < 6 → ¬ (meet_b A (f k) ≡ true)) → meet_any_b A five ≡ false
  unfolding meet_any_b
  none_of n = rw (
    off 1 (omega arith) (omega arith),
    off 2 (omega arith) (omega arith),
    off 3 (omega arith) (omega arith),
    off 4 (omega arith) (omega arith),
    off 5 (omega arith) (omega arith),
  )
    where
      off : (k : ℕ) → 1 ≤ k → k < 6 → meet_b A (f k) ≡ false
      off k l h = not_so _ (n k l h)

-- ---- two rows

module _ (table : List ℤ) (i j : ℕ) where
  -- what i writes against what j reads, what j writes against what i reads, what both write
  abbrev there : Bool
  there = meet_any_b (rect_in table i 0) (reads_in table j)

  abbrev back : Bool
  back = meet_any_b (rect_in table j 0) (reads_in table i)

  abbrev both : Bool
  both = meet_b (rect_in table i 0) (rect_in table j 0)

  clash-parts : clash_in table i j ≡ ((there || both) || (back || both))
  unfolding clash_in clash_b cross_b
  clash-parts =
      let turned = cross-one (rect_in table j 0) (rect_in table i 0) ∙ meet-swapped (rect_in table j 0) (rect_in table i 0) in
      λ n. (or-false there n || cross-one (rect_in table i 0) (rect_in table j 0) n) || (or-false back n || turned n)

  there-clashes : there ≡ true → clash_in table i j ≡ true
  there-clashes e = clash-parts ∙ rw e

  back-clashes : back ≡ true → clash_in table i j ≡ true
  back-clashes e = clash-parts ∙ or_right (there || both) (back || both) (rw e)

  both-clash : both ≡ true → clash_in table i j ≡ true
  both-clash e = clash-parts ∙ ap (λ b. b || (back || both)) (or_right there both e)

  none-clash : there ≡ false → back ≡ false → both ≡ false → clash_in table i j ≡ false
  none-clash t b o = clash-parts ∙ rw (t, b, o)

module _ (table columns : List ℤ) (i j : ℕ) where
  first : 4096 * 0 + j ≡ j
  first = omega arith

  -- a row that is not entered is not struck
  pub not-struck : NotInColumns columns j → ¬ (Struck columns table i j)
  not-struck c (inl (k, h, e)) = true≢false (sym e ∙ meets-empty columns j k h _ c)
  not-struck c (inr (k, l, h, e)) = true≢false (sym e ∙ rw first at (meets-empty columns j 0 (omega arith) (rect_in table i k) c))

  module _ (c : InColumns table columns j) where
    -- a rectangle meets rectangle k of row j in the columns as it does in the table
    meets : (A : Rect) (k : ℕ) → k < 6 → meet_b A (rect_at columns (4096 * k + j)) ≡ meet_b A (rect_in table j k)
    meets A k h = ap (meet_b A) (rect-entered columns j k h table c)

    reads : (k : ℕ) → meet_b (rect_in table i k) (rect_at columns j) ≡ meet_b (rect_in table j 0) (rect_in table i k)
    reads k = (rw first at (meets (rect_in table i k) 0 (omega arith))) ∙ meet-swapped (rect_in table i k) (rect_in table j 0)

    -- an entered row that is struck clashes
    pub struck-clashes : Struck columns table i j → clash_in table i j ≡ true
    struck-clashes (inl (zero, h, e)) = both-clash table i j (sym (meets (rect_in table i 0) 0 h) ∙ e)
    struck-clashes (inl (suc k, h, e)) =
        there-clashes table i j (any_of (rect_in table i 0) (rect_in table j) (suc k) (omega arith) h (sym (meets (rect_in table i 0) (suc k) h) ∙ e))
    struck-clashes (inr (k, l, h, e)) = back-clashes table i j (any_of (rect_in table j 0) (rect_in table i) k l h (sym (reads k) ∙ e))

    -- and one that is not does not
    pub not-struck-free : ¬ (Struck columns table i j) → clash_in table i j ≡ false
    not-struck-free n =
        none-clash table i j
        (none_of (rect_in table i 0) (rect_in table j) (λ k l h e. n (inl (k, h, meets (rect_in table i 0) k h ∙ e))))
        (none_of (rect_in table j 0) (rect_in table i) (λ k l h e. n (inr (k, l, h, reads k ∙ e))))
        (not_so _ (λ e. n (inl (0, omega arith, meets (rect_in table i 0) 0 (omega arith) ∙ e))))
