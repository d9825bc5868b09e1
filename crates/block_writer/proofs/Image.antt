-- A block as the code makes it is the image's. Assumes nothing.
use mathlib.Core.Path.{◌≡◌, sym, ◌∙◌, ap}
use mathlib.Core.List.{List}
use mathlib.Core.Logic.{⊎_elim}
use Prim.Native.Nat.{ℕ, ◌+◌, ◌-◌, ◌*◌, ◌/◌, ◌%◌, ◌^◌, ◌<◌, ◌≤◌}
use native.Mathlib.Nat.{mul-le-mul_right}
use native.Mathlib.Omega.{arith}
use mathlib.Core.Bool.{cond}
use lib.Dec.{ltb}
use lib.ListN.{length, get_or, take, drop, length-take, length-drop, get_or-eq_default}
use lib.Seq.{get_or-take, get_or-drop}
use borrow.Author.Tests.{lt-ltb, le-ltb}
use Rattle.signed.proofs.Naturals.{either}
use Rattle.block_image.specs.Bytes.{byte_of, check_of}
use Rattle.block_image.specs.Image.{blocks_for, used_in, body_byte, block_byte}
use Rattle.block_image.specs.Fits.{Fits}
use Rattle.block_image.specs.declared.format.Format.{Format}
use Rattle.block_image.proofs.Sum.{sum_same}
use Rattle.block_image.proofs.Counted.{begins, last-or-full, within}
use Rattle.block_writer.specs.Made.{made_body, made_byte, WholeRows}

module _ (F : Format) (fit : Fits F) (plan : List ℕ) (n : ℕ) (rows : WholeRows F plan n) (k : ℕ) (l : k < blocks_for F n) where
  abbrev used : ℕ
  used = used_in F n k

  abbrev start : ℕ
  start = k * F.rows * F.words

  -- the words of block k, as the code lends them
  abbrev words : List ℕ
  words = take (start + used * F.words - start) (drop start plan)

  pub block_words : start + used * F.words ≤ length plan
  block_words = omega (arith, rows.whole, mul-le-mul_right {m = k * F.rows + used} {n = n} F.words (within F fit n k l))

  pub words-length : length words ≡ used * F.words
  words-length = simp (length-take, length-drop) (omega (arith, block_words))

  word-is : (j : ℕ) → j < F.rows * F.words → get_or words j 0 ≡ get_or plan (k * (F.rows * F.words) + j) 0
  word-is j h =
      ⊎_elim
      (λ (p : used * F.words ≤ j).
      get_or-eq_default words 0 (omega (arith, words-length))
      ∙ sym (get_or-eq_default plan 0
      (⊎_elim
      (λ q.
      let g : n ≡ k * F.rows + used = omega (arith, q.1, begins F fit n k l) in
      let e : n * F.words ≡ (k * F.rows + used) * F.words = ap (λ (x : ℕ). x * F.words) g in
      omega (arith, rows.whole))
      (λ q.
      let e : used * F.words ≡ F.rows * F.words = ap (λ (x : ℕ). x * F.words) q.0 in
      absurd (omega arith))
      (last-or-full F fit n k l))))
      (λ (p : j < used * F.words).
      let z : start + j ≡ k * (F.rows * F.words) + j = omega arith in
      get_or-take (start + used * F.words - start) (drop start plan) j 0 (omega arith) ∙ get_or-drop start plan j 0 ∙ ap (λ (x : ℕ). get_or plan x 0) z)
      (either (used * F.words) j)

  body_is : (b : ℕ) → b < 508 → made_body k used (8 + F.zeros) words b ≡ body_byte F plan k b
  unfolding made_body body_byte
  body_is b h =
      ⊎_elim
      (λ (p : 8 + F.zeros ≤ b).
      let i = b - (8 + F.zeros) in
      rw (le-ltb b (8 + F.zeros) p, le-ltb b 4 (omega arith), le-ltb b 8 (omega arith))
      (ap (λ (x : ℕ). byte_of x (i % 2)) (word-is (i / 2) (omega (arith, fit.fills)))))
      (λ (p : b < 8 + F.zeros).
      rw (lt-ltb b (8 + F.zeros) p) (λ j. cond (ltb b 4) (byte_of k b) (cond (ltb b 8) (byte_of (used_in F (rows.is j) k) (b - 4)) 0)))
      (either (8 + F.zeros) b)

  pub block-is : (b : ℕ) → b < 512 → made_byte k used (8 + F.zeros) words b ≡ block_byte F plan k b
  unfolding made_byte
  block-is b h =
      let c : check_of (made_body k used (8 + F.zeros) words) ≡ check_of (body_byte F plan k) =
      ap (λ (x : ℕ). x % 2 ^ 32) (sum_same (made_body k used (8 + F.zeros) words) (body_byte F plan k) 127 (λ i q. body_is i q)) in
      ⊎_elim
      (λ (p : 508 ≤ b). rw (le-ltb b 508 p) (ap (λ (x : ℕ). byte_of x (b - 508)) c))
      (λ (p : b < 508). rw (lt-ltb b 508 p) (body_is b p))
      (either 508 b)
