-- "filter table `F4` (32 rows of four) are copied from source" (document 01, Directions).
use Rattle.std.specs.Prelude.{ℕ, List, [], ◌∷◌, get_or, ℤ, pos, negsuc}

abbrev pub filters : List (List ℤ)
filters =
    (pos 0 ∷ pos 128 ∷ pos 0 ∷ pos 0 ∷ []) ∷
    (negsuc 1 ∷ pos 127 ∷ pos 4 ∷ negsuc 0 ∷ []) ∷
    (negsuc 2 ∷ pos 125 ∷ pos 8 ∷ negsuc 1 ∷ []) ∷
    (negsuc 4 ∷ pos 123 ∷ pos 13 ∷ negsuc 2 ∷ []) ∷
    (negsuc 5 ∷ pos 121 ∷ pos 17 ∷ negsuc 3 ∷ []) ∷
    (negsuc 6 ∷ pos 118 ∷ pos 22 ∷ negsuc 4 ∷ []) ∷
    (negsuc 8 ∷ pos 116 ∷ pos 27 ∷ negsuc 5 ∷ []) ∷
    (negsuc 8 ∷ pos 112 ∷ pos 32 ∷ negsuc 6 ∷ []) ∷
    (negsuc 9 ∷ pos 109 ∷ pos 37 ∷ negsuc 7 ∷ []) ∷
    (negsuc 10 ∷ pos 106 ∷ pos 41 ∷ negsuc 7 ∷ []) ∷
    (negsuc 10 ∷ pos 102 ∷ pos 46 ∷ negsuc 8 ∷ []) ∷
    (negsuc 11 ∷ pos 98 ∷ pos 52 ∷ negsuc 9 ∷ []) ∷
    (negsuc 11 ∷ pos 94 ∷ pos 56 ∷ negsuc 9 ∷ []) ∷
    (negsuc 11 ∷ pos 90 ∷ pos 61 ∷ negsuc 10 ∷ []) ∷
    (negsuc 11 ∷ pos 85 ∷ pos 66 ∷ negsuc 10 ∷ []) ∷
    (negsuc 11 ∷ pos 81 ∷ pos 71 ∷ negsuc 11 ∷ []) ∷
    (negsuc 11 ∷ pos 76 ∷ pos 76 ∷ negsuc 11 ∷ []) ∷
    (negsuc 11 ∷ pos 71 ∷ pos 81 ∷ negsuc 11 ∷ []) ∷
    (negsuc 10 ∷ pos 66 ∷ pos 85 ∷ negsuc 11 ∷ []) ∷
    (negsuc 10 ∷ pos 61 ∷ pos 90 ∷ negsuc 11 ∷ []) ∷
    (negsuc 9 ∷ pos 56 ∷ pos 94 ∷ negsuc 11 ∷ []) ∷
    (negsuc 9 ∷ pos 52 ∷ pos 98 ∷ negsuc 11 ∷ []) ∷
    (negsuc 8 ∷ pos 46 ∷ pos 102 ∷ negsuc 10 ∷ []) ∷
    (negsuc 7 ∷ pos 41 ∷ pos 106 ∷ negsuc 10 ∷ []) ∷
    (negsuc 7 ∷ pos 37 ∷ pos 109 ∷ negsuc 9 ∷ []) ∷
    (negsuc 6 ∷ pos 32 ∷ pos 112 ∷ negsuc 8 ∷ []) ∷
    (negsuc 5 ∷ pos 27 ∷ pos 116 ∷ negsuc 8 ∷ []) ∷
    (negsuc 4 ∷ pos 22 ∷ pos 118 ∷ negsuc 6 ∷ []) ∷
    (negsuc 3 ∷ pos 17 ∷ pos 121 ∷ negsuc 5 ∷ []) ∷
    (negsuc 2 ∷ pos 13 ∷ pos 123 ∷ negsuc 4 ∷ []) ∷
    (negsuc 1 ∷ pos 8 ∷ pos 125 ∷ negsuc 2 ∷ []) ∷
    (negsuc 0 ∷ pos 4 ∷ pos 127 ∷ negsuc 1 ∷ []) ∷
    []

-- tap t of phase s
abbrev pub f4 : ℕ → ℕ → ℤ
f4 s t = get_or (get_or filters s []) t (pos 0)
