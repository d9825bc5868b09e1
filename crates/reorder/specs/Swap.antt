-- Two neighbours of an order change places. Assumes nothing.
use Rattle.std.specs.Prelude.{List, ℕ, ◌+◌, get_or, set}
use Rattle.reorder.specs.Jobs.{Jobs, Clash}

-- the entries at p and p + 1 are exchanged
unfoldable pub swapped : List ℕ → ℕ → List ℕ
swapped order p = set (set order p (get_or order (p + 1) 0)) (p + 1) (get_or order p 0)

-- the rows at p and p + 1 do not clash
abbrev pub Free : (J : Jobs) → (ℕ → J.Job) → List ℕ → ℕ → Type 0
Free J row order p = ¬ (Clash J (row (get_or order p 0)) (row (get_or order (p + 1) 0)))
