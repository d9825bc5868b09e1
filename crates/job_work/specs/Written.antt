-- "Written sample: prediction plus difference, clipped to 0..M." (document 01, From samples to edges)
use Rattle.std.specs.Prelude.{List, ℕ, ◌+◌, ◌*◌, ℤ, pos, ◌+ℤ◌, Float, get_or}
use Rattle.numbers.specs.Limits.{ref_cap}
use Rattle.numbers.specs.Depth.{most}
use Rattle.lists.specs.Fill.{tab}
use Rattle.lists.specs.Block.{sample}
use Rattle.edge_line.specs.Edge.{entry_of}
use Rattle.block_spec.specs.Behind.{above_behind, left_behind, corner_behind}
use Rattle.sides.specs.Values.{value_of}
use Rattle.block_spec.specs.declared.spec.IntraRefSpec.{IntraRefSpec}
use Rattle.taps.specs.Interp.{clip}
use Rattle.job.specs.declared.job.Job.{Job}
use Rattle.modes.specs.Predictor.{predictor_of}

-- the edges that `build_refs` makes of 128 entries each, and the corner
unfoldable pub above_edge : ℕ → IntraRefSpec → List Float → List ℤ
above_edge W s plane = tab ref_cap (entry_of s.b (λ c. value_of W plane (above_behind s c)))

unfoldable pub left_edge : ℕ → IntraRefSpec → List Float → List ℤ
left_edge W s plane = tab ref_cap (entry_of s.b (λ c. value_of W plane (left_behind s c)))

unfoldable pub corner_entry : ℕ → IntraRefSpec → List Float → ℤ
corner_entry W s plane = value_of W plane (corner_behind s)

-- the prediction at row r and column c of the block
abbrev pub predicted_at : ℕ → Job → List Float → ℕ → ℕ → ℤ
predicted_at W job plane =
    predictor_of job job.spec.b (above_edge W job.spec plane) (left_edge W job.spec plane) (corner_entry W job.spec plane)

-- its difference: the block's differences stand row by row
abbrev pub difference_at : List ℤ → Job → ℕ → ℕ → ℤ
difference_at differences job r c = get_or differences (job.start + (r * job.spec.b + c)) (pos 0)

unfoldable pub written_at : ℕ → List ℤ → Job → List Float → ℕ → ℕ → Float
written_at W differences job plane r c =
    sample (clip (pos (most job.spec.d)) (predicted_at W job plane r c +ℤ difference_at differences job r c))
