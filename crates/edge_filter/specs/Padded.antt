-- What the code's steps ask of an edge in a list that starts four entries early, with its ends repeated: entry i + 4 is place i, and n the last place.
use Rattle.std.specs.Prelude.{◌≡◌, List, ℕ, ◌+◌, ◌≤◌, ◌<◌, length, get_or, ℤ, pos}
use Rattle.signed.specs.Range.{Edge}
use Rattle.edge_filter.specs.Filter.{padded}

abbrev pub entry_at : List ℤ → ℕ → ℤ
entry_at xs i = get_or xs (i + 4) (pos 0)

pub record Ends (n : ℕ) (xs : List ℤ) : Type 0 where
  pub long : n + 7 ≤ length xs
  pub samples : Edge 4095 (n + 7) xs
  pub repeats : (k : ℕ) → k < n + 7 → get_or xs k (pos 0) ≡ padded 4 n (entry_at xs) k
