-- "From samples to edges (`build_refs`)", by places: which sample, or which number, stands behind an entry of an edge.
use Rattle.std.specs.Prelude.{cond, ℕ, ◌+◌, ◌-◌, ℤ, pos, ◌+ℤ◌, ◌-ℤ◌}
use Rattle.edge_line.specs.Along.{along}
use Rattle.block_spec.specs.declared.spec.IntraRefSpec.{IntraRefSpec}

pub data Behind : Type 0 where
  -- the plane's sample at a row and a column
  place : ℕ → ℕ → Behind
  -- a number that is no sample
  number : ℤ → Behind

-- "Above there: .. row y-1, column x + ..". "Above missing: left's sample (y, x-1) everywhere, or with neither, base - 1."
unfoldable pub above_behind : IntraRefSpec → ℕ → Behind
above_behind s c =
    cond s.have_above
    (place (s.y - 1) (s.x + along s.b s.available_above s.top_right c))
    (cond s.have_left (place s.y (s.x - 1)) (number (pos s.base -ℤ pos 1)))

-- "Left is the same along column x-1, with (y-1, x) when only above is there, or base + 1."
unfoldable pub left_behind : IntraRefSpec → ℕ → Behind
left_behind s c =
    cond s.have_left
    (place (s.y + along s.b s.available_left s.bottom_left c) (s.x - 1))
    (cond s.have_above (place (s.y - 1) s.x) (number (pos s.base +ℤ pos 1)))

-- "Corner: (y-1, x-1) with both, else (y-1, x), else (y, x-1), else base."
unfoldable pub corner_behind : IntraRefSpec → Behind
corner_behind s =
    cond s.have_above
    (cond s.have_left (place (s.y - 1) (s.x - 1)) (place (s.y - 1) s.x))
    (cond s.have_left (place s.y (s.x - 1)) (number (pos s.base)))
