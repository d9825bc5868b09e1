-- A job's block, and its hull: the smallest rectangle around all that it reads and writes. Both are empty if it fails 1 to 7.
use Rattle.std.specs.Prelude.{Bool, cond, ℕ, ◌+◌, ◌-◌, min}
use Rattle.block_spec.specs.declared.spec.IntraRefSpec.{IntraRefSpec}
use Rattle.reorder.specs.Rect.{Rect}
use Rattle.job.specs.Row.{Row, spec_of}
use Rattle.job.specs.Rules.{stands}
use Rattle.touches.specs.Touches.{block_at}
use Rattle.touches.specs.Rects.{rect_if}

-- one row or column more if the neighbour is there
abbrev pub one : Bool → ℕ
one there = cond there 1 0

-- and the samples past the block, at most B
abbrev pub past : Bool → ℕ → ℕ → ℕ
past there more B = cond there (min more B) 0

-- the column at the left and the row above, the samples past the block to the right and below
abbrev pub hull_of : IntraRefSpec → Rect
hull_of s = record {
  x = s.x - one s.have_left;
  y = s.y - one s.have_above;
  w = one s.have_left + s.b + past s.have_above s.top_right s.b;
  h = one s.have_above + s.b + past s.have_left s.bottom_left s.b;
}

-- a rectangle, or an empty one
abbrev pub only_if : Bool → Rect → Rect
only_if on R = rect_if on R.x R.y R.w R.h

abbrev pub block_for : ℕ → ℕ → ℕ → Row → Rect
block_for W H n row = only_if (stands W H n row) (block_at (spec_of row))

abbrev pub hull_for : ℕ → ℕ → ℕ → Row → Rect
hull_for W H n row = only_if (stands W H n row) (hull_of (spec_of row))
