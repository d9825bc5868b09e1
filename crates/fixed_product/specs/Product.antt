-- "Product and division are inner helpers" (document 01, Colour parameters): the product, `mul_fixed32_adapt` of mhccp.rs, over whole numbers.
use Rattle.std.specs.Prelude.{cond, ℕ, zero, suc, ◌+◌, ◌-◌, ◌/◌, ◌^◌, ltb, leb, ℤ, pos, negsuc, neg_ℤ, nat_abs, ◌*ℤ◌}
use Rattle.std.specs.Int.Signed.{shr_z}
use Rattle.std.specs.Int.Count.{count_leading_zeros}

-- the place of the highest set bit of n < 2 ^ 32, and 0 for 0
unfoldable pub ilog2 : ℕ → ℕ
ilog2 n = 31 - count_leading_zeros 32 n

-- how many binary digits |z| has: 1 for 0
unfoldable pub digits : ℤ → ℕ
digits z = ilog2 (nat_abs z) + 1

-- how many digits the two factors have above 29, together: 0 where there are none
unfoldable pub over : ℤ → ℤ → ℕ
over a b = (digits a + digits b) - 29

-- the factors' product, each first shifted: the first by half of what is over, the second by the rest
unfoldable pub narrow : ℤ → ℤ → ℤ
narrow a b = shr_z a (2 ^ (over a b / 2)) *ℤ shr_z b (2 ^ (over a b - over a b / 2))

-- n with z's sign
abbrev pub signed : ℤ → ℕ → ℤ
signed (pos m) n = pos n
signed (negsuc m) n = neg_ℤ (pos n)

-- n / 2 ^ k rounded to the nearest, halves up
abbrev pub near : ℕ → ℕ → ℕ
near n zero = n
near n (suc k) = (n + 2 ^ k) / 2 ^ suc k

-- p / 2 ^ k rounded to the nearest, halves away from 0; k = 0 leaves p, and k above 29 gives 0
unfoldable pub rounded : ℤ → ℕ → ℤ
rounded p zero = p
rounded p (suc k) = cond (ltb 29 (suc k)) (pos 0) (signed p (near (nat_abs p) (suc k)))

-- what the factors' shifts took is not shifted again
unfoldable pub mul_fixed : ℤ → ℤ → ℕ → ℤ
mul_fixed a b shift = rounded (narrow a b) (shift - over a b)

-- a second factor below this, and not negative, leaves no digit over, so that the product is short
unfoldable pub short_limit : ℤ → ℕ
short_limit a = cond (leb (digits a) 28) (2 ^ (29 - digits a)) 0
