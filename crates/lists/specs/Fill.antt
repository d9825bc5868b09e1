-- Lists that are filled from the front.
use Rattle.std.specs.Prelude.{ℕ, zero, suc, List, [], ◌∷◌, ◌++◌, drop}

-- the list of n entries whose entry i is f i
unfoldable pub tab : {A : Type 0} → ℕ → (ℕ → A) → List A
tab zero f = []
tab (suc n) f = tab n f ++ (f n ∷ [])

-- the first n entries are f's, and the others as they were
abbrev pub filled : {A : Type 0} → ℕ → (ℕ → A) → List A → List A
filled n f xs = tab n f ++ drop n xs
