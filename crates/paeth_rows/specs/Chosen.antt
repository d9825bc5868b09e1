-- What the rows work out. With x = t - k and y = l - k, b = l + t - k lies |x| from l, |y| from t and |x + y| from k; that the choice by these is
-- Paeth's is shown in `paeth`.
use Rattle.std.specs.Prelude.{ℕ, cond, ◌&&◌, leb, ℤ, nat_abs, ◌+ℤ◌, ◌-ℤ◌}

-- the choice, for left l, above t and corner k, by their distances p, q and r
abbrev pub by : ℕ → ℕ → ℕ → ℤ → ℤ → ℤ → ℤ
by p q r l t k = cond (leb p q && leb p r) l (cond (leb q r) t k)

unfoldable pub chosen : ℤ → ℤ → ℤ → ℤ
chosen l t k = by (nat_abs (t -ℤ k)) (nat_abs (l -ℤ k)) (nat_abs (t -ℤ k +ℤ (l -ℤ k))) l t k
