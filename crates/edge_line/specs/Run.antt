-- Runs of a plane's samples, each a stride after the one before.
use Rattle.std.specs.Prelude.{List, ℕ, ◌+◌, ◌-◌, ◌*◌, ◌≤◌, ◌<◌, Float, get_or}
use Rattle.std.specs.Float.{nan}

abbrev pub run_at : List Float → ℕ → ℕ → ℕ → Float
run_at plane start stride i = get_or plane (start + i * stride) nan

-- n samples that lie in a plane of `size` samples
pub record Run (size start stride n : ℕ) : Type 0 where
  pub lies : (i : ℕ) → i < n → start + i * stride < size
  pub near : stride ≤ 4096
  pub small : size ≤ 16777216

-- a neighbour's line of samples, of which `first` of the first bs are there, and `more` from bs on: it lies in the plane
pub record Line (size start stride bs first more : ℕ) : Type 0 where
  pub block : (1 ≤ bs) × (bs ≤ 64)
  pub counts : (1 ≤ first) × (first ≤ bs) × (more ≤ bs)
  pub lies : start + (bs + more - 1) * stride < size
  pub near : stride ≤ 4096
  pub small : size ≤ 16777216
