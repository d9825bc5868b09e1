-- A rectangle written into the table, and a row of it filled one rectangle after the other. Assumes nothing.
use mathlib.Core.Path.{◌≡◌, refl, ◌∙◌}
use mathlib.Core.Logic.{inl, inr, ◌≢◌}
use mathlib.Core.List.{List}
use Prim.Native.Nat.{ℕ, ◌+◌, ◌*◌, ◌≤◌, ◌<◌}
use native.Mathlib.Decide.{ℕ_discrete}
use native.Mathlib.Omega.{arith}
use lib.IntN.{ℤ, pos}
use lib.ListN.{length, get_or, set, length-set}
use lib.Seq.{get_or-set_same, get_or-set_other}
use Rattle.reorder.specs.Rect.{Rect}
use Rattle.rect_order.specs.Table.{rect_between, rect_in, Plain}
use Rattle.rect_order.proofs.Table.{plain-set, rect-is}
use Rattle.tower_touches.specs.Rects.{nothing}
use Rattle.tower_order.specs.Tables.{with_rect, Stored}

-- the table after one, two and three of the four numbers
abbrev one : List ℤ → ℕ → Rect → List ℤ
one table p R = set table p (pos R.x)

abbrev two : List ℤ → ℕ → Rect → List ℤ
two table p R = set (one table p R) (p + 1) (pos (R.x + R.w))

abbrev three : List ℤ → ℕ → Rect → List ℤ
three table p R = set (two table p R) (p + 2) (pos R.y)

module _ (table : List ℤ) (p : ℕ) (R : Rect) where
  pub length-with : length (with_rect table p R) ≡ length table
  unfolding with_rect
  length-with = simp length-set

  stays : (q : ℕ) → q ≢ p → q ≢ p + 1 → q ≢ p + 2 → q ≢ p + 3 → get_or (with_rect table p R) q (pos 0) ≡ get_or table q (pos 0)
  unfolding with_rect
  stays q n0 n1 n2 n3 =
      get_or-set_other (three table p R) (p + 3) q _ _ n3 ∙ get_or-set_other (two table p R) (p + 2) q _ _ n2
      ∙ get_or-set_other (one table p R) (p + 1) q _ _ n1 ∙ get_or-set_other table p q _ _ n0

  module _ (fits : p + 4 ≤ length table) where
    long1 : length (one table p R) ≡ length table
    long1 = simp length-set

    long2 : length (two table p R) ≡ length table
    long2 = simp length-set

    long3 : length (three table p R) ≡ length table
    long3 = simp length-set

    first : get_or (with_rect table p R) p (pos 0) ≡ pos R.x
    unfolding with_rect
    first =
        get_or-set_other (three table p R) (p + 3) p _ _ (omega arith) ∙ get_or-set_other (two table p R) (p + 2) p _ _ (omega arith)
        ∙ get_or-set_other (one table p R) (p + 1) p _ _ (omega arith) ∙ get_or-set_same table p _ _ (omega arith)

    second : get_or (with_rect table p R) (p + 1) (pos 0) ≡ pos (R.x + R.w)
    unfolding with_rect
    second =
        get_or-set_other (three table p R) (p + 3) (p + 1) _ _ (omega arith) ∙ get_or-set_other (two table p R) (p + 2) (p + 1) _ _ (omega arith)
        ∙ get_or-set_same (one table p R) (p + 1) _ _ (omega (arith, long1))

    third : get_or (with_rect table p R) (p + 2) (pos 0) ≡ pos R.y
    unfolding with_rect
    third = get_or-set_other (three table p R) (p + 3) (p + 2) _ _ (omega arith) ∙ get_or-set_same (two table p R) (p + 2) _ _ (omega (arith, long2))

    fourth : get_or (with_rect table p R) (p + 3) (pos 0) ≡ pos (R.y + R.h)
    unfolding with_rect
    fourth = get_or-set_same (three table p R) (p + 3) _ _ (omega (arith, long3))

    plain-with : Plain table → Plain (with_rect table p R)
    unfolding with_rect
    plain-with plain =
        plain-set (three table p R) (p + 3) _ (omega (arith, long3)) refl
        (plain-set (two table p R) (p + 2) _ (omega (arith, long2)) refl
        (plain-set (one table p R) (p + 1) _ (omega (arith, long1)) refl
        (plain-set table p _ (omega arith) refl plain)))

-- another rectangle of the row stays
pub rect-stays : (table table' : List ℤ) (i k : ℕ)
    → ((m : ℕ) → m < 4 → get_or table' (24 * i + 4 * k + m) (pos 0) ≡ get_or table (24 * i + 4 * k + m) (pos 0)) → rect_in table' i k ≡ rect_in table i k
rect-stays table table' i k same =
    let z : 24 * i + 4 * k + 0 ≡ 24 * i + 4 * k = omega arith in
    let s0 = rw z at (same 0 (omega arith)) in
    let s1 = same 1 (omega arith) in
    let s2 = same 2 (omega arith) in
    let s3 = same 3 (omega arith) in
    λ j. rect_between (s0 j) (s1 j) (s2 j) (s3 j)

pub stored-none : (table : List ℤ) (i : ℕ) (Rs : List Rect) → Plain table → Stored table table i 0 Rs
stored-none table i Rs plain = record { here = λ k h. absurd (omega arith); other = λ p o. refl; plain = plain; long = refl }

-- one rectangle more, R at place p
module _ (table table' table'' : List ℤ) (i n p : ℕ) (Rs : List Rect) (small : n < 6) (fits : 24 * i + 24 ≤ length table) (at : p ≡ 24 * i + 4 * n)
    (s : Stored table table' i n Rs) where
  room : p + 4 ≤ length table'
  room = omega (arith, s.long)

  abbrev R : Rect
  R = get_or Rs n nothing

  here : rect_in (with_rect table' p R) i n ≡ R
  here =
      rect-is (with_rect table' p R) i n R (rw (← at) (first table' p R room)) (rw (← at) (second table' p R room))
      (rw (← at) (third table' p R room)) (rw (← at) (fourth table' p R room))

  before : (k : ℕ) → k < n → rect_in (with_rect table' p R) i k ≡ rect_in table' i k
  before k h = rect-stays table' (with_rect table' p R) i k (λ m l. stays table' p R _ (omega arith) (omega arith) (omega arith) (omega arith))

  more : Stored table (with_rect table' p R) i (n + 1) Rs
  more = record {
    here = λ k h. elim (ℕ_discrete k n) [ yes q ↦ rw q here | no q ↦ before k (omega arith) ∙ s.here k (omega arith) ];
    other = λ q o. elim o [
      | inl l ↦ stays table' p R q (omega arith) (omega arith) (omega arith) (omega arith) ∙ s.other q (inl l)
      | inr l ↦ stays table' p R q (omega arith) (omega arith) (omega arith) (omega arith) ∙ s.other q (inr l)
    ];
    plain = plain-with table' p R room s.plain;
    long = length-with table' p R ∙ s.long;
  }

  pub stored_more : table'' ≡ with_rect table' p (get_or Rs n nothing) → Stored table table'' i (n + 1) Rs
  stored_more e = rw e more
