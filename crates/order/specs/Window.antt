-- What a walk over the order finds out at one entry, row i of the plan: whether a row after it that has run clashes with it.
use Rattle.std.specs.Prelude.{◌≡◌, ◌⊎◌, Bool, true, false, List, ℕ, ◌+◌, ◌*◌, ◌≤◌, ◌<◌, ℤ, pos, length, replicate}
use Rattle.reorder.specs.Check.{once_b}
use Rattle.job.specs.Row.{row_at}
use Rattle.touches.specs.Rects.{clash_of}
use Rattle.order.specs.Sides.{block_sides, hull_sides, met, noted}
use Rattle.order.specs.declared.bound_lists.Sides.{Sides}

-- the block b meets row j's hull, or the hull h its block
abbrev pub Touch : List ℤ → List ℤ → Sides → Sides → ℕ → Type 0
Touch blocks hulls b h j = (met hulls j b ≡ true) ⊎ (met blocks j h ≡ true)

-- the rows from i up to `top` are rows of the plan, and of the lists
pub record WindowRows (plan : List ℕ) (i top : ℕ) (blocks hulls : List ℤ) : Type 0 where
  pub row : 16 * i + 16 ≤ length plan
  pub rows : 16 * top ≤ length plan
  pub few : length plan ≤ 16384
  pub blocks-long : length blocks ≡ 4096
  pub hulls-long : length hulls ≡ 4096

-- row j touches row i and clashes with it
pub record Turned (W H n : ℕ) (plan : List ℕ) (i j : ℕ) (blocks hulls : List ℤ) (b h : Sides) (r : Bool) : Type 0 where
  pub found : r ≡ true → Touch blocks hulls b h j × (clash_of W H n (row_at plan i) (row_at plan j) ≡ true)
  pub free : r ≡ false → Touch blocks hulls b h j → clash_of W H n (row_at plan i) (row_at plan j) ≡ false

-- of the rows after i, below `top`, that touch row i: one clashes with it, or none does
pub record Searched (W H n : ℕ) (plan : List ℕ) (i top : ℕ) (blocks hulls : List ℤ) (b h : Sides) (r : Bool) : Type 0 where
  pub found : r ≡ true → (j : ℕ) × (i < j) × (j < top) × Touch blocks hulls b h j × (clash_of W H n (row_at plan i) (row_at plan j) ≡ true)
  pub free : r ≡ false → (j : ℕ) → i < j → j < top → Touch blocks hulls b h j → clash_of W H n (row_at plan i) (row_at plan j) ≡ false

-- and, if none does, row i is noted
pub record Passed (W H n : ℕ) (plan : List ℕ) (i top : ℕ) (blocks hulls blocks' hulls' : List ℤ) (r : Bool) : Type 0 where
  pub searched : Searched W H n plan i top blocks hulls (block_sides W H n (row_at plan i)) (hull_sides W H n (row_at plan i)) r
  pub blocks-are : r ≡ false → blocks' ≡ noted blocks i (block_sides W H n (row_at plan i))
  pub hulls-are : r ≡ false → hulls' ≡ noted hulls i (hull_sides W H n (row_at plan i))

-- what the walk asks: "plan not whole rows or above 1,024 jobs; order .. not one entry a job" does not hold, nor does refusal 22
pub record Walk (W H : ℕ) (plan order : List ℕ) : Type 0 where
  pub wide : W ≤ 4096
  pub high : H ≤ 4096
  pub whole : length plan ≡ 16 * length order
  pub few : length order ≤ 1024
  pub once : once_b (length order) order ≡ true

-- lists in which no row is noted
abbrev pub Blank : List ℤ → Type 0
Blank lists = lists ≡ replicate 4096 (pos 0)
