-- "Terms: the direction's luma >> 3, (c x c + 2^(D-1)) >> D, and 2^(D-1)" (document 01, Colour parameters): the predicted sample.
use Rattle.std.specs.Prelude.{ℕ, cond, ℤ, pos, neg_ℤ, ◌+ℤ◌}
use Rattle.std.specs.Int.Signed.{lt_z}
use Rattle.numbers.specs.Depth.{most}
use Rattle.fixed_product.specs.Product.{mul_fixed}
use Rattle.colour_terms.specs.Terms.{eighth, middle, squared}

-- z clipped to low..high
unfoldable pub clip_to : ℤ → ℤ → ℤ → ℤ
clip_to low high z = cond (lt_z z low) low (cond (lt_z high z) high z)

-- the sum of the terms, each times its parameter: n is the direction's luma, c the centre's, and third what the third term gives
unfoldable pub total : ℕ → ℤ → ℤ → ℤ → ℤ → ℤ → ℤ
total D p0 p1 third n c = mul_fixed p0 (eighth n) 16 +ℤ mul_fixed p1 (squared D (eighth c)) 16 +ℤ third

-- the third term's is one number for the whole block
abbrev pub third_of : ℕ → ℤ → ℤ
third_of D p2 = mul_fixed p2 (pos (middle D)) 16

-- clipped to 16 bits with a sign, and then to 0..M
unfoldable pub clipped : ℕ → ℤ → ℤ
clipped D z = clip_to (pos 0) (pos (most D)) (clip_to (neg_ℤ (pos 32768)) (pos 32767) z)
