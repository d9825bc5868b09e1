-- The taps of luma and of chroma as tables of one form: chroma's two, told in 128ths, are four as luma's.
use Rattle.std.specs.Prelude.{ℕ, ◌-◌, ◌*◌, Bool, cond, List, [], ◌∷◌, ℤ, pos, get_or}
use Rattle.lists.specs.Fill.{tab}
use Rattle.taps.specs.F4.{filters}
use Rattle.taps.specs.Interp.{luma}

-- chroma's taps of a phase
abbrev pub twos : ℕ → List ℤ
twos f = pos 0 ∷ pos (128 - 4 * f) ∷ pos (4 * f) ∷ pos 0 ∷ []

-- the taps of all phases
abbrev pub table_of : Bool → List (List ℤ)
table_of lum = cond lum filters (tab 32 twos)

-- tap t of phase f
abbrev pub tap : List (List ℤ) → ℕ → ℕ → ℤ
tap fs f t = get_or (get_or fs f []) t (pos 0)

-- the sample from the entries b .. b + 3
abbrev pub tapped : List (List ℤ) → ℤ → ℕ → (ℕ → ℤ) → ℕ → ℤ
tapped fs M f p b = luma M (tap fs f 0) (tap fs f 1) (tap fs f 2) (tap fs f 3) p b
