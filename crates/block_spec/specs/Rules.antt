-- Rules 20, 1, 2, 4, 5 and 6 as document 01's table has them, over whole numbers. Each test is true where its refusal is not given; the refusal is
-- quoted over it.
use Rattle.std.specs.Prelude.{Bool, not, ◌&&◌, ◌||◌, List, [], ◌∷◌, ℕ, ◌+◌, ◌-◌, ◌*◌, min, leb, eqb}
use Rattle.numbers.specs.Limits.{least_side, most_side}
use Rattle.numbers.specs.Size.{is_size}
use Rattle.numbers.specs.Depth.{is_depth, most}
use Rattle.numbers.specs.declared.answer.Refusal.TheVariants.{BadSize, BadDepth, OutsidePlane, NoNeighbour, BadBase}
use Rattle.refusals.specs.Ladder.{Rule, ◌else◌}
use Rattle.block_spec.specs.declared.spec.IntraRefSpec.{IntraRefSpec}

-- "A plane is W by H samples of f32, W and H from 4 to 4,096." 20: "W or H out of range, or the plane's length is not W x H"
abbrev pub is_plane_side : ℕ → Bool
is_plane_side n = leb least_side n && leb n most_side

unfoldable pub is_plane : ℕ → ℕ → ℕ → Bool
is_plane W H n = is_plane_side W && is_plane_side H && eqb n (W * H)

-- "x + B > W or y + B > H"
unfoldable pub is_inside : ℕ → ℕ → IntraRefSpec → Bool
is_inside W H s = leb (s.x + s.b) W && leb (s.y + s.b) H

-- "above there, and y = 0 or available-above = 0 or x + B + min(top-right, B) > W": across is y, start is x, end is W
unfoldable pub is_reach : Bool → ℕ → ℕ → ℕ → ℕ → ℕ → ℕ → Bool
is_reach there across available start B more end = not there || (leb 1 across && leb 1 available && leb (start + B + min more B) end)

-- ".. the same for left with x, available-left, y, bottom-left and H"
unfoldable pub has_neighbours : ℕ → ℕ → IntraRefSpec → Bool
has_neighbours W H s =
    is_reach s.have_above s.y s.available_above s.x s.b s.top_right W
    && is_reach s.have_left s.x s.available_left s.y s.b s.bottom_left H

-- "neither neighbour there, and base not in 1..M-1"
unfoldable pub is_base : IntraRefSpec → Bool
is_base s = s.have_above || s.have_left || (leb 1 s.base && leb s.base (most s.d - 1))

-- ---- in the segments that a call and a job share

-- 1 and 2: "B is none of the five"; "D is none of the three"
abbrev pub size_rules : IntraRefSpec → List Rule
size_rules s =
    is_size s.b else BadSize ∷
    is_depth s.d else BadDepth ∷ []

-- 4, 5 and 6, in a plane of W by H samples
abbrev pub place_rules : ℕ → ℕ → IntraRefSpec → List Rule
place_rules W H s =
    is_inside W H s else OutsidePlane ∷
    has_neighbours W H s else NoNeighbour ∷
    is_base s else BadBase ∷ []
