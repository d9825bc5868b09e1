-- How far along a neighbour's line the sample lies that stands behind an entry (document 01, From samples to edges).
use Rattle.std.specs.Prelude.{cond, ℕ, ◌+◌, ◌-◌, min, ltb}

-- "entry c < B is the sample at .. min(c, available - 1)", then those from B on: how far along the edge it lies
abbrev pub given : ℕ → ℕ → ℕ → ℕ
given B available c = cond (ltb c B) (min c (available - 1)) c

-- "then min(top-right, B) samples from column x + B on; the last entry repeats to 2B"
unfoldable pub along : ℕ → ℕ → ℕ → ℕ → ℕ
along B available more c = given B available (min c (B + min more B - 1))
