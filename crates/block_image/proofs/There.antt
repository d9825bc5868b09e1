-- What stands in the blocks of a plan's image: its index, its count, zeros, the plan's words and the check. Assumes nothing.
use mathlib.Core.Path.{◌≡◌, sym, ◌∙◌, ap}
use mathlib.Core.Bool.{true}
use mathlib.Core.List.{List}
use Prim.Native.Nat.{ℕ, ◌+◌, ◌-◌, ◌*◌, ◌/◌, ◌%◌, ◌^◌, ◌<◌}
use native.Mathlib.Nat.{mod-lt}
use native.Mathlib.Omega.{arith}
use lib.ListN.{length}
use borrow.Author.Tests.{lt-ltb, le-ltb, eq-eqb}
use Rattle.lists.proofs.Fill.{tab-at, length-tab}
use Rattle.block_image.specs.Bytes.{word32, check_of}
use Rattle.block_image.specs.Image.{rows_in, blocks_for, used_in, row_byte, body_byte, block_byte, image_byte, image_size, image}
use Rattle.block_image.specs.Rules.{block_bytes, is_check}
use Rattle.block_image.specs.Taken.{blocks_in}
use Rattle.block_image.specs.Fits.{Fits}
use Rattle.block_image.specs.declared.format.Format.{Format}
use Rattle.block_image.proofs.Digits.{word-is}
use Rattle.block_image.proofs.Sum.{sum_same}

pub image-length : (F : Format) (plan : List ℕ) → length (image F plan) ≡ image_size F plan
unfolding image
image-length F plan = length-tab _ _

pub blocks-in : (F : Format) (plan : List ℕ) → blocks_in (image F plan) ≡ blocks_for F (rows_in F plan)
blocks-in F plan = ap (λ (x : ℕ). x / 512) (image-length F plan) ∙ omega arith

module _ (F : Format) (fit : Fits F) (plan : List ℕ) (k : ℕ) (l : k < blocks_for F (rows_in F plan)) where
  abbrev at : ℕ → ℕ
  at = block_bytes (image F plan) k

  pub at-is : (b : ℕ) → b < 512 → at b ≡ block_byte F plan k b
  unfolding image
  at-is b h =
      let q : (512 * k + b) / 512 ≡ k = omega arith in
      let r : (512 * k + b) % 512 ≡ b = omega arith in
      tab-at _ (image_byte F plan) (512 * k + b) 0 (omega arith) ∙ rw (q, r)

  pub body_at : (b : ℕ) → b < 508 → at b ≡ body_byte F plan k b
  body_at b h = at-is b (omega arith) ∙ rw (lt-ltb b 508 h)

  pub index_at : k < 4294967296 → word32 at 0 ≡ k
  unfolding body_byte
  index_at s = word-is at 0 k s (λ b h. ap at (omega arith) ∙ body_at b (omega arith) ∙ rw (lt-ltb b 4 h))

  pub used-at : used_in F (rows_in F plan) k < 4294967296 → word32 at 4 ≡ used_in F (rows_in F plan) k
  unfolding body_byte
  used-at s =
      word-is at 4 _ s
      (λ b h.
      let e : 4 + b - 4 ≡ b = omega arith in
      body_at (4 + b) (omega arith) ∙ rw (le-ltb (4 + b) 4 (omega arith), lt-ltb (4 + b) 8 (omega arith), e))

  pub zero-before : (j : ℕ) → j < F.zeros → at (8 + j) ≡ 0
  unfolding body_byte
  zero-before j h =
      body_at (8 + j) (omega (arith, fit.fills))
      ∙ rw (le-ltb (8 + j) 4 (omega arith), le-ltb (8 + j) 8 (omega arith), lt-ltb (8 + j) (8 + F.zeros) (omega arith))

  pub row_at : (i : ℕ) → i < 2 * (F.rows * F.words) → at (8 + F.zeros + i) ≡ row_byte F plan k i
  unfolding body_byte
  row_at i h =
      let e : 8 + F.zeros + i - (8 + F.zeros) ≡ i = omega arith in
      body_at (8 + F.zeros + i) (omega (arith, fit.fills))
      ∙ rw (le-ltb (8 + F.zeros + i) 4 (omega arith), le-ltb (8 + F.zeros + i) 8 (omega arith), le-ltb (8 + F.zeros + i) (8 + F.zeros) (omega arith), e)

  pub check-at : is_check at ≡ true
  unfolding is_check
  check-at =
      let s = sum_same at (body_byte F plan k) 127 (λ b h. body_at b h) in
      let c : check_of at ≡ check_of (body_byte F plan k) = ap (λ (x : ℕ). x % 2 ^ 32) s in
      let w : word32 at 508 ≡ check_of (body_byte F plan k) =
      word-is at 508 _ (mod-lt _ (omega arith))
      (λ b h.
      let e : 508 + b - 508 ≡ b = omega arith in
      at-is (508 + b) (omega arith) ∙ rw (le-ltb (508 + b) 508 (omega arith), e)) in
      eq-eqb (word32 at 508) (check_of at) (w ∙ sym c)
