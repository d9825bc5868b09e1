-- The bytes of a block that is accepted are those of the image of the plan that is read. Assumes nothing.
use mathlib.Core.Path.{◌≡◌, sym, ◌∙◌, ap}
use mathlib.Core.List.{List}
use mathlib.Core.Logic.{⊎_elim}
use Prim.Native.Nat.{ℕ, ◌+◌, ◌-◌, ◌*◌, ◌/◌, ◌%◌, ◌^◌, ◌<◌, ◌≤◌}
use native.Mathlib.Nat.{mul-le-mul_right}
use native.Mathlib.Omega.{arith}
use lib.Arith.{digits_div, digits_mod}
use lib.ListN.{get_or, get_or-eq_default}
use borrow.Author.Tests.{lt-ltb, le-ltb, eqb-true}
use Rattle.signed.proofs.Naturals.{either}
use Rattle.lists.proofs.Fill.{tab-at}
use Rattle.block_image.specs.Bytes.{word32, byte_of, check_of}
use Rattle.block_image.specs.Image.{row_byte, body_byte, block_byte}
use Rattle.block_image.specs.Rules.{block_bytes, used_at, is_check}
use Rattle.block_image.specs.Taken.{blocks_in, WholeFile, rows_of, word_at, plan_of}
use Rattle.block_image.specs.Fits.{Fits}
use Rattle.block_image.specs.declared.format.Format.{Format}
use Rattle.block_image.proofs.Digits.{bytes_of, both_of, no_bytes}
use Rattle.block_image.proofs.Sum.{sum_same}
use Rattle.block_image.proofs.Zeros.{zero-at}
use Rattle.block_image.proofs.Held.{of-block, rows-past, used-is}
use Rattle.block_image.proofs.RowsOf.{plan-length}

module _ (F : Format) (fit : Fits F) (bytes : List ℕ) (small : (i : ℕ) → get_or bytes i 0 < 256) (accepted : WholeFile F bytes) where
  abbrev n : ℕ
  n = blocks_in bytes

  abbrev plan : List ℕ
  plan = plan_of F bytes

  module _ (k : ℕ) (l : k < n) where
    abbrev at : ℕ → ℕ
    at = block_bytes bytes k

    word-there : (m : ℕ) → m < F.rows * F.words → k * (F.rows * F.words) + m < rows_of F bytes * F.words
        → get_or plan (k * (F.rows * F.words) + m) 0 ≡ at (8 + F.zeros + 2 * m) + 256 * at (8 + F.zeros + 2 * m + 1)
    unfolding plan_of
    word-there m r h =
        tab-at _ (word_at F bytes) _ 0 h ∙ rw (digits_div k {m = F.rows * F.words} {r = m} r, digits_mod k {m = F.rows * F.words} {r = m} r)

    word-past : (m : ℕ) → rows_of F bytes * F.words ≤ k * (F.rows * F.words) + m → get_or plan (k * (F.rows * F.words) + m) 0 ≡ 0
    word-past m h = get_or-eq_default plan 0 (rw (plan-length F bytes) h)

    past-is-zero : (i : ℕ) → i < 2 * (F.rows * F.words) → rows_of F bytes * F.words ≤ k * (F.rows * F.words) + i / 2 → at (8 + F.zeros + i) ≡ 0
    past-is-zero i r h =
        ⊎_elim
        (λ p.
        let u = used_at at in
        let d : F.rows ≡ u + (F.rows - u) = omega (arith, (of-block F fit bytes small accepted k l).fit) in
        let e : F.rows * F.words ≡ u * F.words + (F.rows - u) * F.words = ap (λ (x : ℕ). x * F.words) d ∙ omega arith in
        let g : rows_of F bytes * F.words ≡ (k * F.rows + u) * F.words = ap (λ (x : ℕ). x * F.words) p.1 in
        ap at (omega arith) ∙ zero-at at _ _ (of-block F fit bytes small accepted k l).unused (i - 2 * (u * F.words)) (omega arith))
        (λ p. absurd (omega (arith, mul-le-mul_right {m = k * F.rows + F.rows} {n = rows_of F bytes} F.words p.1)))
        (rows-past F fit bytes small accepted k l)

    row-byte : (i : ℕ) → i < 2 * (F.rows * F.words) → row_byte F plan k i ≡ at (8 + F.zeros + i)
    row-byte i r =
        ⊎_elim
        (λ h. ap (λ (x : ℕ). byte_of x (i % 2)) (word-past (i / 2) h) ∙ no_bytes (i % 2) (omega arith) ∙ sym (past-is-zero i r h))
        (λ h.
        ap (λ (x : ℕ). byte_of x (i % 2)) (word-there (i / 2) (omega arith) h)
        ∙ both_of at (λ b. small _) (8 + F.zeros + 2 * (i / 2)) (i % 2) (omega arith)
        ∙ ap at (omega arith))
        (either (rows_of F bytes * F.words) (k * (F.rows * F.words) + i / 2))

    body_is : (b : ℕ) → b < 508 → body_byte F plan k b ≡ at b
    unfolding body_byte
    body_is b h =
        ⊎_elim
        (λ p. rw (le-ltb b 4 p)
        (⊎_elim
        (λ q. rw (le-ltb b 8 q)
        (⊎_elim
        (λ r. rw (le-ltb b (8 + F.zeros) r) (row-byte (b - (8 + F.zeros)) (omega (arith, fit.fills)) ∙ ap at (omega arith)))
        (λ r. rw (lt-ltb b (8 + F.zeros) r) (sym (ap at (omega arith) ∙ zero-at at 8 _ (of-block F fit bytes small accepted k l).before (b - 8) (omega arith))))
        (either (8 + F.zeros) b)))
        (λ q. rw (lt-ltb b 8 q)
        (ap (λ (x : ℕ). byte_of x (b - 4)) (used-is F fit bytes small accepted k l)
        ∙ bytes_of at (λ x. small _) 4 (b - 4) (omega arith)
        ∙ ap at (omega arith)))
        (either 8 b)))
        (λ p. rw (lt-ltb b 4 p)
        (ap (λ (x : ℕ). byte_of x b) (sym (of-block F fit bytes small accepted k l).index) ∙ bytes_of at (λ x. small _) 0 b p ∙ ap at (omega arith)))
        (either 4 b)

    check-is : check_of (body_byte F plan k) ≡ word32 at 508
    unfolding is_check
    check-is =
        ap (λ (x : ℕ). x % 2 ^ 32) (sum_same (body_byte F plan k) at 127 (λ b h. body_is b h))
        ∙ sym (eqb-true (word32 at 508) (check_of at) (of-block F fit bytes small accepted k l).check)

    pub block-is : (b : ℕ) → b < 512 → block_byte F plan k b ≡ at b
    block-is b h =
        ⊎_elim
        (λ p. rw (le-ltb b 508 p)
        (ap (λ (x : ℕ). byte_of x (b - 508)) check-is ∙ bytes_of at (λ x. small _) 508 (b - 508) (omega arith) ∙ ap at (omega arith)))
        (λ p. rw (lt-ltb b 508 p) (body_is b p))
        (either 508 b)
