-- The product at shift 16 by a second factor in 0..4095 (document 01, Colour parameters). What both factors drop hangs on the second one's digits
-- alone, so that a list has it, worked out once for a first factor.
use Rattle.std.specs.Prelude.{ℕ, ◌+◌, ◌-◌, ◌/◌, ◌^◌, ◌<◌, ◌≡◌, List, ℤ, pos, negsuc, nat_abs, ◌*ℤ◌, length, get_or}
use Rattle.std.specs.Int.Bits.{bit_and}
use Rattle.std.specs.Int.Signed.{shr_z}
use Rattle.fixed_product.specs.Product.{digits, over}

-- how many digits are above 29, of a and a second factor of d digits
abbrev pub over_by : ℤ → ℕ → ℕ
over_by a d = (digits a + d) - 29

-- a without its last s digits
abbrev pub cleared : ℤ → ℕ → ℤ
cleared a s = shr_z a (2 ^ s) *ℤ pos (2 ^ s)

-- twelve digits, the last s of them 0
abbrev pub mask : ℕ → ℕ
mask s = 4096 - 2 ^ s

-- the product of what a and b keep
unfoldable pub kept_product : ℤ → ℤ → ℤ
kept_product a b = cleared a (over a b / 2) *ℤ pos (bit_and (nat_abs b) (mask (over a b - over a b / 2)))

-- entry z has a without what it drops beside second factors of 12 - z digits, and entry 12 + z the digits that those keep; of the first k
pub record WideTo (k : ℕ) (a : ℤ) (table : List ℤ) : Type 0 where
  pub long : length table ≡ 24
  pub first : (z : ℕ) → z < k → get_or table z (pos 0) ≡ cleared a (over_by a (12 - z) / 2)
  pub second : (z : ℕ) → z < k → get_or table (12 + z) (pos 0) ≡ pos (mask (over_by a (12 - z) - over_by a (12 - z) / 2))

-- the table of a: for second factors of 12 digits to 1
abbrev pub WideTable : ℤ → List ℤ → Type 0
WideTable = WideTo 12

-- what is added to a product by a, so that a shift by 16 rounds it to the nearest, halves away from 0
abbrev pub half_of : ℤ → ℤ
half_of (pos n) = pos 32768
half_of (negsuc n) = pos 32767
