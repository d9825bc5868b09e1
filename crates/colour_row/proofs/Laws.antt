-- Laws of a predicted sample: the short product is one shift, one clip is as good as two, and the sum of the terms fits. Assumes nothing.
use mathlib.Core.Path.{◌≡◌, refl, sym, ◌∙◌, ap}
use mathlib.Core.Bool.{Bool, true, false, cond}
use Prim.Native.Nat.{ℕ, ◌≤◌, ◌<◌}
use native.Mathlib.Omega.{arith}
use lib.IntN.{ℤ, pos, neg_ℤ, ◌+ℤ◌, ◌*ℤ◌}
use lib.Signed.{shr_z, lt_z}
use mir.Syntax.{w32}
use mir.Val.{SFits}
use Rattle.numbers.specs.Depth.{is_depth, most}
use Rattle.signed.proofs.Order.{lt_z-true, lt_z-false, lt-lt_z, le-lt_z}
use Rattle.fixed_product.specs.Product.{mul_fixed, short_limit}
use Rattle.product_table.specs.Wide.{half_of}
use Rattle.fixed_product.proofs.Short.{short}
use Rattle.product_table.proofs.Kept.{shift-round}
use Rattle.colour_terms.proofs.Most.{most-all}
use Rattle.colour_row.specs.Sample.{clip_to, clipped}

-- below the limit the product is that shift
pub short-is : (a : ℤ) (n : ℕ) → SFits w32 a → n < short_limit a → shr_z (a *ℤ pos n +ℤ half_of a) 65536 ≡ mul_fixed a (pos n) 16
short-is a n f h = sym (shift-round a n) ∙ (short a n f h).is

least : (M : ℕ) → M ≤ 32767 → (t : Bool) → lt_z (pos M) (pos 32767) ≡ t → pos M ≡ cond t (pos M) (pos 32767)
least M h true e = refl
least M h false e = ap pos (omega (arith, lt_z-false (pos M) (pos 32767) e))

-- a clip to 0..M makes a clip to 16 bits needless
clip-once : (M : ℕ) (z : ℤ) → M ≤ 32767 → clip_to (pos 0) (pos M) z ≡ clip_to (pos 0) (pos M) (clip_to (neg_ℤ (pos 32768)) (pos 32767) z)
unfolding clip_to
clip-once M z h = go (lt_z z (neg_ℤ (pos 32768))) (lt_z (pos 32767) z) refl refl
  where
    go : (s t : Bool) → lt_z z (neg_ℤ (pos 32768)) ≡ s → lt_z (pos 32767) z ≡ t
        → clip_to (pos 0) (pos M) z ≡ clip_to (pos 0) (pos M) (cond s (neg_ℤ (pos 32768)) (cond t (pos 32767) z))
    go true t e f = rw (lt-lt_z z (pos 0) (omega (arith, lt_z-true z (neg_ℤ (pos 32768)) e)))
    go false true e f =
        let l = lt_z-true (pos 32767) z f in
        rw (le-lt_z z (pos 0) (omega arith), lt-lt_z (pos M) z (omega arith)) (least M h (lt_z (pos M) (pos 32767)) refl)
    go false false e f = refl

pub clip-is : (D : ℕ) (z : ℤ) → is_depth D ≡ true → clip_to (pos 0) (pos (most D)) z ≡ clipped D z
unfolding clipped
clip-is D z d = clip-once (most D) z (omega (arith, most-all D d))
