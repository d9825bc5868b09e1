-- "The short product in `predict_block` equals it for all factors" (document 01, Colour parameters): `term` of `predict_block` in mhccp.rs, which is
-- short where it can be.
use Rattle.std.specs.Prelude.{cond, ◌&&◌, ◌+◌, ◌*◌, ◌/◌, ◌^◌, ltb, ℤ, nat_abs}
use Rattle.std.specs.Int.Signed.{non_neg}
use Rattle.fixed_product.specs.Product.{signed, mul_fixed, short_limit}

-- the product of the sizes, shifted by 16 and rounded, with the first factor's sign
abbrev pub short_product : ℤ → ℤ → ℤ
short_product a b = signed a ((nat_abs a * nat_abs b + 2 ^ 15) / 2 ^ 16)

-- a second factor that is not negative and below the first one's limit takes the short product, and any other the adapted one
unfoldable pub term : ℤ → ℤ → ℤ
term a b = cond (non_neg b && ltb (nat_abs b) (short_limit a)) (short_product a b) (mul_fixed a b 16)
