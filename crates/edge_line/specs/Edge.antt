-- What an edge output holds: 2B entries, and zeros up to 128.
use Rattle.std.specs.Prelude.{cond, List, ℕ, ◌*◌, ltb, ℤ, pos}
use Rattle.numbers.specs.Limits.{ref_cap}
use Rattle.lists.specs.Fill.{filled}

-- "Entries 2B to 127 are 0."
abbrev pub entry_of : ℕ → (ℕ → ℤ) → ℕ → ℤ
entry_of B value i = cond (ltb i (2 * B)) (value i) (pos 0)

abbrev pub edge_of : ℕ → (ℕ → ℤ) → List ℤ → List ℤ
edge_of B value before = filled ref_cap (entry_of B value) before
