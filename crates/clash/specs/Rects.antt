-- The code's rectangles, as those of the theory.
use Rattle.std.specs.Prelude.{◌≡◌, true, ◌+◌, ◌≤◌}
use Rattle.block_spec.specs.declared.spec.IntraRefSpec.{IntraRefSpec}
use Rattle.reorder.specs.Rect.{Rect}
use Rattle.clash.specs.Hull.{hull_of}
use Rattle.clash.specs.declared.rect.Rect.{Rect as Rect'}

abbrev pub rect_of : Rect' → Rect
rect_of r = record { x = r.x; y = r.y; w = r.w; h = r.h }

-- its far corner is at most three 16-bit words away
pub record Small (r : Rect') : Type 0 where
  pub across : r.x + r.w ≤ 196605
  pub down : r.y + r.h ≤ 196605

-- a neighbour that is there has a row or a column
pub record Near (s : IntraRefSpec) : Type 0 where
  pub above : s.have_above ≡ true → 1 ≤ s.y
  pub left : s.have_left ≡ true → 1 ≤ s.x

-- its hull, and so its block, lies within 15 bits
pub record HullFits (s : IntraRefSpec) : Type 0 where
  pub near : Near s
  pub across : (hull_of s).x + (hull_of s).w ≤ 32767
  pub down : (hull_of s).y + (hull_of s).h ≤ 32767
