-- Names and their numbers: a number is given for each case, and the case for each number is looked up in the list of the cases.
use Rattle.std.specs.Prelude.{Bool, false, cond, ◌||◌, List, [], ◌∷◌, ℕ, eqb}

-- the case whose number is n, as `is` holds it, or `none`
abbrev pub look : {E F : Type 0} → (E → ℕ) → (E → F) → F → List E → ℕ → F
look number is none [] n = none
look number is none (e ∷ es) n = cond (eqb n (number e)) (is e) (look number is none es n)

-- n is the number of one of the cases
abbrev pub among : {E : Type 0} → (E → ℕ) → List E → ℕ → Bool
among number [] n = false
among number (e ∷ es) n = eqb n (number e) || among number es n
