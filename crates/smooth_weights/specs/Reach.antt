-- From where on a scale has no weights.
use Rattle.std.specs.Prelude.{ℕ, ◌+◌, ◌*◌}

-- how many columns of the scale s have weights
abbrev pub reach_of : ℕ → ℕ
reach_of s = 4 * s + 4
