-- The words of a file block by block. Assumes nothing.
use mathlib.Core.Path.{◌≡◌}
use mathlib.Core.List.{List}
use mathlib.Core.Logic.{⊎_elim}
use Prim.Native.Nat.{ℕ, ◌+◌, ◌*◌, ◌/◌, ◌≤◌, ◌<◌}
use native.Mathlib.Nat.{le_of_mul-le-mul_right, mul-le-mul_right, div-mul-le_self, div-add-mod', mod-lt}
use native.Mathlib.Omega.{arith}
use lib.Arith.{digits_div, digits_mod}
use lib.ListN.{get_or}
use Rattle.signed.proofs.Naturals.{either}
use Rattle.block_image.specs.Bytes.{word16}
use Rattle.block_image.specs.Rules.{bytes_from}
use Rattle.block_image.specs.Taken.{word_in}

-- word i of block k
pub word-of-block : (area lead : ℕ) (bytes : List ℕ) (k i : ℕ) → i < area → word16 (bytes_from bytes (512 * k + lead)) (2 * i) ≡ word_in area lead bytes (k * area + i)
word-of-block area lead bytes k i h =
    rw (digits_div k {m = area} {r = i} h, digits_mod k {m = area} {r = i} h)
    (let p : 512 * k + lead + 2 * i ≡ 512 * k + (lead + 2 * i) = omega arith in
    let q : 512 * k + lead + (2 * i + 1) ≡ 512 * k + (lead + 2 * i + 1) = omega arith in
    λ j. get_or bytes (p j) 0 + 256 * get_or bytes (q j) 0)

module _ (area total n : ℕ) (some : 0 < area) (most : total ≤ n * area) where
  -- the blocks that are taken whole
  pub full-blocks : total / area ≤ n
  full-blocks = le_of_mul-le-mul_right {m = total / area} {n = n} {k = area} (omega (arith, div-mul-le_self total area)) some

  -- the block after them, where it is taken in part
  pub part-block : total / area * area < total → total / area < n
  part-block h =
      ⊎_elim
      (λ (p : n ≤ total / area). absurd (omega (arith, mul-le-mul_right {m = n} {n = total / area} area p)))
      (λ (p : total / area < n). p)
      (either n (total / area))

  pub rest-few : total < total / area * area + area
  rest-few = omega (arith, div-add-mod' total area, mod-lt total some)
