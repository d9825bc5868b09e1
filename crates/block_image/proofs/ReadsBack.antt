-- "which reads back as that plan": the plan that is read of a plan's image is that plan. Assumes nothing.
use mathlib.Core.Path.{◌≡◌, sym, ◌∙◌, ap}
use mathlib.Core.List.{List}
use mathlib.Core.Logic.{⊎_elim}
use Prim.Native.Nat.{ℕ, ◌+◌, ◌-◌, ◌*◌, ◌/◌, ◌%◌, ◌<◌, ◌≤◌}
use native.Mathlib.Nat.{mul-le-mul_left, mul-le-mul_right, div-lt_iff_lt-mul, div-add-mod', mod-lt}
use native.Mathlib.Omega.{arith}
use lib.ListN.{length, get_or}
use lib.Seq.{ext_get_or}
use borrow.Author.Tests.{eq-eqb, ne_eqb}
use Rattle.signed.proofs.Naturals.{either}
use Rattle.numbers.specs.Limits.{most_jobs}
use Rattle.lists.proofs.Fill.{tab-at, length-tab}
use Rattle.block_image.specs.Bytes.{byte_of}
use Rattle.block_image.specs.Image.{rows_in, blocks_for, image}
use Rattle.block_image.specs.Rules.{block_bytes}
use Rattle.block_image.specs.Taken.{rows_of, word_at, plan_of}
use Rattle.block_image.specs.Fits.{Fits}
use Rattle.block_image.specs.declared.format.Format.{Format}
use Rattle.block_image.proofs.Digits.{both_is}
use Rattle.block_image.proofs.Counted.{begins, ends, last-or-full}
use Rattle.block_image.proofs.There.{blocks-in, row_at}
use Rattle.block_image.proofs.Forth.{used-there}

module _ (F : Format) (fit : Fits F) (plan : List ℕ) (small : (i : ℕ) → get_or plan i 0 < 65536)
    (whole : length plan ≡ rows_in F plan * F.words) (few : rows_in F plan ≤ most_jobs) where
  abbrev rows : ℕ
  rows = rows_in F plan

  abbrev n : ℕ
  n = blocks_for F rows

  abbrev bytes : List ℕ
  bytes = image F plan

  pub rows-of : rows_of F bytes ≡ rows
  rows-of =
      rw (blocks-in F plan)
      (⊎_elim
      (λ (p : 1 ≤ n).
      let l : n - 1 < n = omega arith in
      let z : n ≡ n - 1 + 1 = omega arith in
      let m : n * F.rows ≡ (n - 1 + 1) * F.rows = ap (λ (x : ℕ). x * F.rows) z in
      rw (ne_eqb n 0 (λ (e : n ≡ 0). omega arith), used-there F fit plan small whole few (n - 1) l)
      (⊎_elim
      (λ q. omega (arith, q.1, begins F fit rows (n - 1) l))
      (λ q. omega (arith, q.0, q.1, ends F fit rows))
      (last-or-full F fit rows (n - 1) l)))
      (λ (p : n < 1).
      let z : n ≡ 0 = omega arith in
      let m : n * F.rows ≡ 0 * F.rows = ap (λ (x : ℕ). x * F.rows) z in
      rw (eq-eqb n 0 z) (omega (arith, ends F fit rows)))
      (either 1 n))

  word_of : (i : ℕ) → i < rows * F.words → word_at F bytes i ≡ get_or plan i 0
  word_of i h =
      let area = F.rows * F.words in
      let some : 0 < area = omega (arith, mul-le-mul_left {m = 1} {n = F.words} F.rows fit.some_words, fit.some-rows) in
      let k = i / area in
      let m = i % area in
      let l : k < n = (div-lt_iff_lt-mul some).1 (omega (arith, mul-le-mul_right {m = rows} {n = n * F.rows} F.words (ends F fit rows))) in
      let r = mod-lt i some in
      let whole-i = div-add-mod' i area in
      both_is (block_bytes bytes k) (8 + F.zeros + 2 * m) (get_or plan i 0) (small i)
      (λ b q.
      let z : 8 + F.zeros + 2 * m + b ≡ 8 + F.zeros + (2 * m + b) = omega arith in
      let half : (2 * m + b) / 2 ≡ m = omega arith in
      let odd : (2 * m + b) % 2 ≡ b = omega arith in
      ap (block_bytes bytes k) z
      ∙ row_at F fit plan k l (2 * m + b) (omega arith)
      ∙ (λ j. byte_of (get_or plan (k * area + half j) 0) (odd j))
      ∙ ap (λ (x : ℕ). byte_of (get_or plan x 0) b) whole-i)

  pub reads-back : plan_of F bytes ≡ plan
  unfolding plan_of
  reads-back =
      ext_get_or 0 _ _ (length-tab _ _ ∙ ap (λ (x : ℕ). x * F.words) rows-of ∙ sym whole)
      (λ i h.
      let l : i < rows * F.words = rw (length-tab (rows_of F bytes * F.words) (word_at F bytes) ∙ ap (λ (x : ℕ). x * F.words) rows-of) at h in
      tab-at _ (word_at F bytes) i 0 (rw rows-of l) ∙ word_of i l)
