-- "a plane sample or edge entry that is read is not a number in 0..M" (document 01, Refusal numbers, 8): which samples are read, and their test.
use Rattle.std.specs.Prelude.{Bool, ◌&&◌, List, [], ◌∷◌, ℕ, ◌*◌, pos, Float}
use Rattle.numbers.specs.Depth.{most}
use Rattle.numbers.specs.declared.answer.Refusal.TheVariants.{BadSample}
use Rattle.refusals.specs.Ladder.{Rule, ◌else◌}
use Rattle.edge_line.specs.Every.{every}
use Rattle.block_spec.specs.declared.spec.IntraRefSpec.{IntraRefSpec}
use Rattle.block_spec.specs.Behind.{Behind, above_behind, left_behind, corner_behind}
use Rattle.sides.specs.Spot.{spot_of, spot_in_range}

-- what stands behind an entry is a number in 0..M, if it is a sample at all
abbrev pub behind_in_range : ℕ → ℕ → List Float → Behind → Bool
behind_in_range M W plane b = spot_in_range (pos M) plane (spot_of W b)

-- those behind the 2B entries of one edge
unfoldable pub edge_read : List Float → ℕ → IntraRefSpec → (ℕ → Behind) → Bool
edge_read plane W s behind = every (λ c. behind_in_range (most s.d) W plane (behind c)) (2 * s.b)

-- "a plane sample .. that is read is not a number in 0..M": those behind the 2B entries of both edges, and behind the corner
unfoldable pub all_read : List Float → ℕ → IntraRefSpec → Bool
all_read plane W s =
    edge_read plane W s (above_behind s) && edge_read plane W s (left_behind s) && behind_in_range (most s.d) W plane (corner_behind s)

-- 8
abbrev pub read_rules : List Float → ℕ → IntraRefSpec → List Rule
read_rules plane W s = all_read plane W s else BadSample ∷ []
