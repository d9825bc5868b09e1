-- "Paeth: with b = l + t - k, take l if |b-l| is at most both other distances, else t if |b-t| <= |b-k|, else k." (document 01, The predictors)
use Rattle.std.specs.Prelude.{ℕ, cond, ◌&&◌, leb, get_or, ℤ, pos, nat_abs, ◌+ℤ◌, ◌-ℤ◌}
use Rattle.direct_calls.specs.Direct.{Predictor}

-- |x - y|
abbrev pub dist : ℤ → ℤ → ℕ
dist x y = nat_abs (x -ℤ y)

-- the choice, for left l, above t, corner k and b
abbrev pub nearest : ℤ → ℤ → ℤ → ℤ → ℤ
nearest b l t k =
    cond (leb (dist b l) (dist b t) && leb (dist b l) (dist b k)) l
    (cond (leb (dist b t) (dist b k)) t k)

unfoldable pub paeth : ℤ → ℤ → ℤ → ℤ
paeth l t k = nearest (l +ℤ t -ℤ k) l t k

-- the sample at row r and column c
abbrev pub paeth_at : Predictor
paeth_at B above left k r c = paeth (get_or left r (pos 0)) (get_or above c (pos 0)) k
