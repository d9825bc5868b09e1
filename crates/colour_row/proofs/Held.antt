-- What is ready for a block fits, the terms of its samples are small. Assumes nothing.
use mathlib.Core.Path.{◌≡◌, sym, subst}
use mathlib.Core.Bool.{true}
use Prim.Native.Nat.{ℕ, ◌≤◌, ◌<◌, ◌^◌}
use native.Mathlib.Nat.{lt_of_le_of_lt}
use native.Mathlib.Omega.{arith}
use lib.IntN.{ℤ, pos, nat_abs}
use mir.Syntax.{w32}
use mir.Val.{SFits}
use Rattle.numbers.specs.Depth.{most}
use Rattle.signed.specs.Range.{inside}
use Rattle.signed.proofs.Bound.{back-abs, sfits-abs}
use Rattle.signed.proofs.Range.{inside-abs, inside-pos, inside-more}
use Rattle.fixed_product.specs.Product.{mul_fixed, short_limit}
use Rattle.fixed_product.proofs.Bounds.{mul-pos}
use Rattle.fixed_product.proofs.Thru.{thru}
use Rattle.product_table.proofs.Served.{half-small}
use Rattle.colour_terms.specs.Terms.{eighth, squared}
use Rattle.colour_terms.proofs.Most.{most-all, depth-some, eighth-in, squared-in}
use Rattle.colour_row.specs.Mixed.{MixReady, Short, Luma}
use Rattle.colour_row.specs.declared.mix.Mix.{Mix}

module _ (k : Mix) (r : MixReady k) where
  within : (z : ℤ) (n : ℕ) → n ≤ 2 ^ 29 → (d : ℤ) → z ≡ d → nat_abs d ≤ n → thru z ≡ z
  within z n l d e h = back-abs w32 z (omega (arith, subst (λ x. nat_abs x ≤ n) (sym e) h))

  pub max= : thru k.max ≡ k.max
  max= = within _ 4095 (omega arith) _ r.max (most-all k.bits r.depth).1

  pub mid= : thru k.mid ≡ k.mid
  mid= = within _ 2048 (omega arith) _ r.mid (most-all k.bits r.depth).2

  pub half0= : thru k.half0 ≡ k.half0
  half0= = within _ 32768 (omega arith) _ r.half0 (half-small k.p0)

  pub half1= : thru k.half1 ≡ k.half1
  half1= = within _ 32768 (omega arith) _ r.half1 (half-small k.p1)

  -- luma that is read comes back as it stands
  pub luma-back : (v : ℤ) → Luma k v → thru v ≡ v
  luma-back v l = back-abs w32 v (omega (arith, inside-abs _ v l, (most-all k.bits r.depth).1))

  -- the first two terms of luma
  module _ (v : ℤ) (l : Luma k v) where
    pub eighth-inside : inside (pos (most k.bits)) (eighth v) ≡ true
    eighth-inside = eighth-in (most k.bits) v l

    -- what `squared` asks
    pub eighth-twelve : inside (pos 4095) (eighth v) ≡ true
    eighth-twelve = inside-more _ 4095 (most-all k.bits r.depth).1 (eighth v) eighth-inside

    eighth-small : nat_abs (eighth v) ≤ most k.bits
    eighth-small = inside-abs _ _ eighth-inside

    pub eighth-pos : eighth v ≡ pos (nat_abs (eighth v))
    eighth-pos = inside-pos _ _ eighth-inside

    squared-inside : inside (pos (most k.bits)) (squared k.bits (eighth v)) ≡ true
    squared-inside = squared-in k.bits (eighth v) (depth-some k.bits r.depth) eighth-inside

    -- what the wide product asks
    pub squared-twelve : inside (pos 4095) (squared k.bits (eighth v)) ≡ true
    squared-twelve = inside-more _ 4095 (most-all k.bits r.depth).1 (squared k.bits (eighth v)) squared-inside

    squared-small : nat_abs (squared k.bits (eighth v)) ≤ most k.bits
    squared-small = inside-abs _ _ squared-inside

    pub squared-pos : squared k.bits (eighth v) ≡ pos (nat_abs (squared k.bits (eighth v)))
    squared-pos = inside-pos _ _ squared-inside

    -- what the short product asks
    pub first_below : Short k → nat_abs (eighth v) < short_limit k.p0
    first_below h = lt_of_le_of_lt eighth-small h.first

    pub second_below : Short k → nat_abs (squared k.bits (eighth v)) < short_limit k.p1
    second_below h = lt_of_le_of_lt squared-small h.second

  pub most-small : (z : ℤ) → nat_abs z ≤ most k.bits → nat_abs z ≤ 4095
  most-small z h = omega (arith, (most-all k.bits r.depth).1)

  pub small-fits : (z : ℤ) → nat_abs z ≤ most k.bits → SFits w32 z
  small-fits z h = sfits-abs w32 z (omega (arith, most-small z h))

  -- a product by a number in 0..M
  product_small : (a b : ℤ) → SFits w32 a → nat_abs b ≤ most k.bits → b ≡ pos (nat_abs b) → nat_abs (mul_fixed a b 16) ≤ 2 ^ 29
  product_small a b f h e = mul-pos a b f (small-fits b h) (nat_abs b) 16 e

  -- what the first two terms give
  module _ (a v : ℤ) (f : SFits w32 a) (l : Luma k v) where
    pub first_small : nat_abs (mul_fixed a (eighth v) 16) ≤ 2 ^ 29
    first_small = product_small a (eighth v) f (eighth-small v l) (eighth-pos v l)

    pub second-small : nat_abs (mul_fixed a (squared k.bits (eighth v)) 16) ≤ 2 ^ 29
    second-small = product_small a (squared k.bits (eighth v)) f (squared-small v l) (squared-pos v l)
