-- "A job reads all these samples, in every mode; it writes its block. A job that fails 1 to 7 reads and writes nothing; one that 8 would refuse still
-- counts for clashes as reading and writing all of these, so clashes hang on rows and sizes alone." (document 01, From samples to edges). Sample p of
-- the plane is at row p / W and column p % W.
use Rattle.std.specs.Prelude.{◌≡◌, true, ℕ, ◌+◌, ◌*◌, ◌<◌}
use Rattle.block_spec.specs.Behind.{Behind, place, number, above_behind, left_behind, corner_behind}
use Rattle.block_spec.specs.declared.spec.IntraRefSpec.{IntraRefSpec}
use Rattle.reorder.specs.Rect.{Rect, In}
use Rattle.job.specs.Row.{Row, spec_of}
use Rattle.job.specs.Rules.{stands}

-- p is the sample that stands behind an entry
abbrev pub IsAt : ℕ → ℕ → Behind → Type 0
IsAt W p (place r c) = p ≡ r * W + c
IsAt W p (number z) = ⊥

-- "all these samples": those behind the 2B entries of both edges, and behind the corner
pub data Read (W : ℕ) (s : IntraRefSpec) (p : ℕ) : Type 0 where
  by-above : (i : ℕ) → i < 2 * s.b → IsAt W p (above_behind s i) → Read W s p
  by_left : (i : ℕ) → i < 2 * s.b → IsAt W p (left_behind s i) → Read W s p
  by-corner : IsAt W p (corner_behind s) → Read W s p

abbrev pub Reads : ℕ → ℕ → ℕ → Row → ℕ → Type 0
Reads W H n row p = (stands W H n row ≡ true) × Read W (spec_of row) p

-- B rows and B columns from x and y on
abbrev pub block_at : IntraRefSpec → Rect
block_at s = record { x = s.x; y = s.y; w = s.b; h = s.b }

abbrev pub block_of : Row → Rect
block_of row = block_at (spec_of row)

abbrev pub Writes : ℕ → ℕ → ℕ → Row → ℕ → Type 0
Writes W H n row p = (stands W H n row ≡ true) × In W (block_of row) p
