-- The product by cleared factors is the definition's: clearing what is dropped is shifting it out and back, and one shift by 16 rounds as the
-- definition's shift by what is left does (document 01, Colour parameters). Assumes nothing.
use mathlib.Core.Path.{◌≡◌, refl, sym, ap, ap₂, ◌∙◌}
use Prim.Native.Nat.{ℕ, suc, ◌+◌, ◌-◌, ◌*◌, ◌/◌, ◌^◌, ◌≤◌, ◌<◌}
use native.Mathlib.Omega.{arith}
use native.Mathlib.Nat as N
use lib.Bits.{bit_and, and_high}
use lib.Pow.{pow-add}
use lib.IntN.{ℤ, pos, negsuc, nat_abs, ◌+ℤ◌, ◌*ℤ◌}
use lib.Signed.{shr_z}
use Rattle.signed.proofs.Parts.{same, mul}
use Rattle.signed.proofs.Bound.{abs-times}
use Rattle.fixed_product.specs.Product.{over, narrow, signed, near, mul_fixed}
use Rattle.product_table.specs.Wide.{cleared, mask, kept_product, half_of}
use Rattle.fixed_product.proofs.Shift.{shr-pow-pos}
use Rattle.fixed_product.proofs.Away.{down}
use Rattle.fixed_product.proofs.Rounding.{near-is, rounded-near}
use Rattle.fixed_product.proofs.Short.{signed_mul}

-- twelve digits and the mask: what is left of n is n without its last s
pub masked : (n s : ℕ) → n < 4096 → s ≤ 12 → bit_and n (mask s) ≡ n / 2 ^ s * 2 ^ s
masked n s h l =
    let e : (12 - s) + s ≡ 12 = omega arith in
    let few : n / 2 ^ s < 2 ^ (12 - s) = shr-pow-pos n 12 s h in
    ap (λ (k : ℕ). bit_and n (2 ^ k - 2 ^ s)) (sym e) ∙ and_high n (12 - s) s ∙ ap (λ (x : ℕ). x * 2 ^ s) (N.mod-eq_of_lt few)

-- two factors that are not negative, one after the other
times-two : (z : ℤ) (p q : ℕ) → (z *ℤ pos p) *ℤ pos q ≡ z *ℤ pos (p * q)
times-two z p q =
    let x = mul (z *ℤ pos p) q in
    let y = mul z p in
    let w = mul z (p * q) in
    let u = x.0 ∙ ap (λ (n : ℕ). n * q) y.0 ∙ N.mul_assoc _ p q ∙ sym w.0 in
    let d = x.1 ∙ ap (λ (n : ℕ). n * q) y.1 ∙ N.mul_assoc _ p q ∙ sym w.1 in
    same _ _ (omega (arith, u, d))

-- rounding by 16 digits, of which o are 0, is rounding by the others
near-scaled : (x o : ℕ) → o ≤ 15 → near (x * 2 ^ o) 16 ≡ near x (16 - o)
near-scaled x o h =
    let e : (15 - o) + o ≡ 15 = omega arith in
    let f : (16 - o) + o ≡ 16 = omega arith in
    let g : 16 - o - 1 ≡ 15 - o = omega arith in
    let half : 2 ^ 15 ≡ 2 ^ (15 - o) * 2 ^ o = ap (λ (k : ℕ). 2 ^ k) (sym e) ∙ pow-add 2 (15 - o) o in
    let all : 2 ^ 16 ≡ 2 ^ (16 - o) * 2 ^ o = ap (λ (k : ℕ). 2 ^ k) (sym f) ∙ pow-add 2 (16 - o) o in
    ap₂ (λ (p q : ℕ). (x * 2 ^ o + p) / q) half all
    ∙ ap (λ (p : ℕ). p / (2 ^ (16 - o) * 2 ^ o)) (sym (N.add-mul x (2 ^ (15 - o)) (2 ^ o)))
    ∙ N.mul-div-mul_right {m = 2 ^ o} (x + 2 ^ (15 - o)) (2 ^ (16 - o)) (N.one-le-pow o 2 (N.zero-lt-suc 1))
    ∙ ap (λ (k : ℕ). (x + 2 ^ k) / 2 ^ (16 - o)) (sym g)
    ∙ near-is x (16 - o) (omega arith)

-- rounding halves away from 0, as a shift that rounds down
pub shift-round : (a : ℤ) (n : ℕ) → signed a (near (nat_abs a * n) 16) ≡ shr_z (a *ℤ pos n +ℤ half_of a) 65536
shift-round (pos m) n = refl
shift-round (negsuc m) n = sym (down (suc m * n) 32768 (omega arith))

-- a shift keeps the sign
half-shr : (a : ℤ) (m : ℕ) → half_of (shr_z a m) ≡ half_of a
half-shr (pos n) m = refl
half-shr (negsuc n) m = refl

module _ (a : ℤ) (n : ℕ) (few : over a (pos n) ≤ 15) where
  abbrev o : ℕ
  o = over a (pos n)

  abbrev s1 : ℕ
  s1 = o / 2

  abbrev s2 : ℕ
  s2 = o - o / 2

  abbrev x : ℤ
  x = shr_z a (2 ^ s1)

  abbrev m : ℕ
  m = n / 2 ^ s2

  -- the cleared factors' product is the shifted ones', shifted back
  product : cleared a s1 *ℤ pos (m * 2 ^ s2) ≡ x *ℤ pos (m * 2 ^ o)
  product =
      let e : s1 + s2 ≡ o = omega arith in
      times-two x (2 ^ s1) (m * 2 ^ s2)
      ∙ ap (λ (k : ℕ). x *ℤ pos k)
      (sym (N.mul_assoc (2 ^ s1) m (2 ^ s2)) ∙ ap (λ (k : ℕ). k * 2 ^ s2) (N.mul_comm (2 ^ s1) m) ∙ N.mul_assoc m (2 ^ s1) (2 ^ s2)
      ∙ ap (λ (k : ℕ). m * k) (sym (pow-add 2 s1 s2) ∙ ap (λ (k : ℕ). 2 ^ k) e))

  -- the definition's product, by its sign and its size
  sized : mul_fixed a (pos n) 16 ≡ signed x (near (nat_abs x * m) (16 - o))
  unfolding mul_fixed narrow
  sized =
      rounded-near (x *ℤ pos m) (16 - o) (omega arith) (omega arith)
      ∙ ap (λ (k : ℕ). signed (x *ℤ pos m) (near k (16 - o))) (abs-times x (pos m))
      ∙ signed_mul x m (16 - o) (omega arith)

  pub wide_is : n < 4096 → shr_z (kept_product a (pos n) +ℤ half_of a) 65536 ≡ mul_fixed a (pos n) 16
  unfolding kept_product
  wide_is h =
      ap₂ (λ (p q : ℤ). shr_z (p +ℤ q) 65536) (ap (λ (k : ℕ). cleared a s1 *ℤ pos k) (masked n s2 h (omega arith)) ∙ product) (sym (half-shr a (2 ^ s1)))
      ∙ sym (shift-round x (m * 2 ^ o))
      ∙ ap (λ (k : ℕ). signed x (near k 16)) (sym (N.mul_assoc (nat_abs x) m (2 ^ o)))
      ∙ ap (signed x) (near-scaled (nat_abs x * m) o few)
      ∙ sym sized
