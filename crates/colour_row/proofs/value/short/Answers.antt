-- `short` meets its contract: the product below the limit fits, and its shift is the definition's. Assumes nothing.
use mathlib.Core.Path.{sym, ◌∙◌, ap, subst}
use Prim.Native.Nat.{◌+◌, ◌^◌, ◌≤◌}
use native.Mathlib.Omega.{arith}
use lib.IntN.{ℤ, nat_abs, ◌+ℤ◌, ◌*ℤ◌}
use lib.Signed.{shr_z}
use mir.Syntax.{w32}
use mir.Facts.{to_z-of_z}
use Rattle.signed.proofs.Bound.{Bound, b-abs, b-add, b-shr, b-fits, abs-times}
use Rattle.fixed_product.specs.Product.{mul_fixed}
use Rattle.fixed_product.proofs.Short.{short}
use Rattle.product_table.proofs.Served.{half-small}
use Rattle.colour_row.proofs.Laws.{short-is}
use Rattle.colour_row.proofs.value.short.Goals as goal

module _ (c : goal.Start) where
  abbrev a : ℤ
  a = c.args.a

  abbrev n : ℤ
  n = c.args.n

  product : Bound (2 ^ 29) (a *ℤ n)
  product = b-abs (omega (arith, abs-times a n, (short a (nat_abs n) c.ranges.a c.requires.1).small))

  sum : Bound (2 ^ 29 + 32768) (a *ℤ n +ℤ c.args.half)
  sum = b-add product (b-abs (subst (λ z. nat_abs z ≤ 32768) (sym c.requires.2) (half-small a)))

pub overflow_mul-result : goal.overflow_mul-result
overflow_mul-result c = simp (to_z-of_z, c.ranges.a, c.ranges.n) (b-fits w32 (product c) tt)

pub overflow_add-result : goal.overflow_add-result
overflow_add-result c = simp (to_z-of_z, c.ranges.a, c.ranges.n, c.ranges.half, b-fits w32 (product c) tt) (b-fits w32 (sum c) tt)

pub returns : goal.returns
returns c =
    simp (to_z-of_z, c.ranges.a, c.ranges.n, c.ranges.half, b-fits w32 (product c) tt, b-fits w32 (sum c) tt, b-fits w32 (b-shr 65536 (sum c)) tt)
    ((λ j. shr_z (a c *ℤ c.requires.0 j +ℤ c.requires.2 j) 65536)
    ∙ short-is (a c) (nat_abs (n c)) c.ranges.a c.requires.1
    ∙ ap (λ z. mul_fixed (a c) z 16) (sym c.requires.0))
