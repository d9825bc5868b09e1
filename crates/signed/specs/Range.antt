-- "a number in 0..M" (document 01, Refusal numbers), of whole numbers.
use Rattle.std.specs.Prelude.{◌≡◌, Bool, true, ◌&&◌, List, ℕ, zero, suc, ◌<◌, ℤ, pos, get_or}
use Rattle.std.specs.Int.Signed.{non_neg, le_z}

-- z is in 0..m
unfoldable pub inside : ℤ → ℤ → Bool
inside m z = non_neg z && le_z z m

-- the first n entries of the list are in 0..m
unfoldable pub all_inside : ℤ → List ℤ → ℕ → Bool
all_inside m xs zero = true
all_inside m xs (suc n) = all_inside m xs n && inside m (get_or xs n (pos 0))

-- the same, entry by entry
abbrev pub Edge : ℕ → ℕ → List ℤ → Type 0
Edge m n xs = (i : ℕ) → i < n → inside (pos m) (get_or xs i (pos 0)) ≡ true
