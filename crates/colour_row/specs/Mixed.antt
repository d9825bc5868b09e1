-- What the code works out once for a block, and asks of it at each sample.
use Rattle.std.specs.Prelude.{ℕ, ◌+◌, ◌*◌, ◌^◌, ◌≤◌, ◌<◌, ◌≡◌, true, ℤ, pos, nat_abs}
use Rattle.numbers.specs.Depth.{is_depth, most}
use Rattle.signed.specs.Range.{inside}
use Rattle.fixed_product.specs.Product.{short_limit}
use Rattle.product_table.specs.Wide.{half_of}
use Rattle.colour_terms.specs.Terms.{middle}
use Rattle.colour_row.specs.Sample.{total, third_of, clipped}
use Rattle.colour_row.specs.declared.mix.Mix.{Mix}

-- every second factor of the block is below the limits
pub record Short (k : Mix) : Type 0 where
  pub first : most k.bits < short_limit k.p0
  pub second : most k.bits < short_limit k.p1

pub record MixReady (k : Mix) : Type 0 where
  pub depth : is_depth k.bits ≡ true
  pub mid : k.mid ≡ pos (middle k.bits)
  pub max : k.max ≡ pos (most k.bits)
  pub third : nat_abs k.third ≤ 2 ^ 29
  pub half0 : k.half0 ≡ half_of k.p0
  pub half1 : k.half1 ≡ half_of k.p1
  pub short : k.short ≡ true → Short k

-- it is made of these
pub record MixOf (D : ℕ) (p0 p1 p2 : ℤ) (k : Mix) : Type 0 where
  pub bits : k.bits ≡ D
  pub first : k.p0 ≡ p0
  pub second : k.p1 ≡ p1
  pub third : k.third ≡ third_of D p2

-- a luma value of the block's depth
abbrev pub Luma : Mix → ℤ → Type 0
Luma k v = inside (pos (8 * most k.bits + 7)) v ≡ true

-- the sample of the direction's luma n and the centre's c
abbrev pub mixed : Mix → ℤ → ℤ → ℤ
mixed k n c = clipped k.bits (total k.bits k.p0 k.p1 k.third n c)
