-- Rows of the columns: the rectangles of one that is entered are the table's, and those of one that is not are empty. Assumes nothing.
use mathlib.Core.Path.{◌≡◌, ◌∙◌, ap}
use mathlib.Core.Bool.{false}
use mathlib.Core.List.{List}
use Prim.Native.Nat.{ℕ, ◌+◌, ◌*◌, ◌<◌, min, max}
use native.Mathlib.Omega.{arith}
use lib.IntN.{ℤ, pos}
use lib.ListN.{get_or}
use borrow.Author.Tests.{le-ltb}
use Rattle.reorder.specs.Rect.{Rect, meet_b}
use Rattle.rect_order.specs.Table.{rect_between, rect_in}
use Rattle.rect_order.specs.Columns.{rect_at}

-- row j is entered, and it is not
abbrev pub InColumns : List ℤ → List ℤ → ℕ → Type 0
InColumns table columns j = (m : ℕ) → m < 24 → get_or columns (1024 * m + j) (pos 0) ≡ get_or table (24 * j + m) (pos 0)

abbrev pub NotInColumns : List ℤ → ℕ → Type 0
NotInColumns columns j = (m : ℕ) → m < 24 → get_or columns (1024 * m + j) (pos 0) ≡ pos 0

-- ---- rectangle k of row j

module _ (columns : List ℤ) (j k : ℕ) (few : k < 6) where
  -- its four numbers stand 1,024 apart
  rect-of : (number : ℕ → ℤ) → ((m : ℕ) → m < 24 → get_or columns (1024 * m + j) (pos 0) ≡ number m)
      → rect_at columns (4096 * k + j) ≡ rect_between (number (4 * k)) (number (4 * k + 1)) (number (4 * k + 2)) (number (4 * k + 3))
  rect-of number is =
      let e0 : 4096 * k + j ≡ 1024 * (4 * k) + j = omega arith in
      let e1 : 1024 + (4096 * k + j) ≡ 1024 * (4 * k + 1) + j = omega arith in
      let e2 : 2048 + (4096 * k + j) ≡ 1024 * (4 * k + 2) + j = omega arith in
      let e3 : 3072 + (4096 * k + j) ≡ 1024 * (4 * k + 3) + j = omega arith in
      let n0 = ap column e0 ∙ is (4 * k) (omega arith) in
      let n1 = ap column e1 ∙ is (4 * k + 1) (omega arith) in
      let n2 = ap column e2 ∙ is (4 * k + 2) (omega arith) in
      let n3 = ap column e3 ∙ is (4 * k + 3) (omega arith) in
      λ i. rect_between (n0 i) (n1 i) (n2 i) (n3 i)
    where
      column : ℕ → ℤ
      column p = get_or columns p (pos 0)

  pub rect-entered : (table : List ℤ) → InColumns table columns j → rect_at columns (4096 * k + j) ≡ rect_in table j k
  rect-entered table c =
      let e1 : 24 * j + (4 * k + 1) ≡ 24 * j + 4 * k + 1 = omega arith in
      let e2 : 24 * j + (4 * k + 2) ≡ 24 * j + 4 * k + 2 = omega arith in
      let e3 : 24 * j + (4 * k + 3) ≡ 24 * j + 4 * k + 3 = omega arith in
      rect-of (λ m. get_or table (24 * j + m) (pos 0)) c
      ∙ (λ i. rect_between (get_or table (24 * j + 4 * k) (pos 0)) (get_or table (e1 i) (pos 0)) (get_or table (e2 i) (pos 0)) (get_or table (e3 i) (pos 0)))

  pub meets-empty : (A : Rect) → NotInColumns columns j → meet_b A (rect_at columns (4096 * k + j)) ≡ false
  unfolding meet_b
  meets-empty A c = ap (meet_b A) (rect-of (λ m. pos 0) c) ∙ rw (le-ltb (max A.x 0) (min (A.x + A.w) 0) (omega arith))
