-- "Zone 2 gives each sample of the block exactly once" (document 01, Directions): where a row goes over from the left edge to the edge above.
use Rattle.std.specs.Prelude.{ℕ, ◌-◌, ◌/◌, min}

-- how many of a row's w columns are from the left edge: those that t 64ths back along the edge above lead past the corner
abbrev pub split_of : ℕ → ℕ → ℕ
split_of w t = min w ((t - 1) / 64)
