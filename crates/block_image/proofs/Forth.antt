-- "One plan has one byte image": a plan's image is accepted. Assumes nothing.
use mathlib.Core.Path.{◌≡◌, refl, sym, ◌∙◌, ap}
use mathlib.Core.Bool.{Bool, true, false, ◌&&◌, ◌||◌}
use mathlib.Core.List.{List}
use mathlib.Core.Logic.{⊎_elim}
use Prim.Native.Nat.{ℕ, ◌+◌, ◌-◌, ◌*◌, ◌/◌, ◌%◌, ◌<◌, ◌≤◌}
use native.Mathlib.Nat.{mul-le-mul_left}
use native.Mathlib.Omega.{arith}
use lib.Dec.{eqb}
use lib.ListN.{length, get_or, get_or-eq_default}
use borrow.Author.Tests.{eq-eqb, le-leb}
use Rattle.signed.proofs.Naturals.{either}
use Rattle.numbers.specs.Limits.{most_jobs}
use Rattle.block_image.specs.Bytes.{byte_of}
use Rattle.block_image.specs.Image.{rows_in, blocks_for, used_in, image}
use Rattle.block_image.specs.Rules.{block_bytes, used_at, is_whole, is_used}
use Rattle.block_image.specs.Taken.{blocks_in, is_block, WholeFile}
use Rattle.block_image.specs.Fits.{Fits}
use Rattle.block_image.specs.declared.format.Format.{Format}
use Rattle.block_image.proofs.Digits.{no_bytes}
use Rattle.block_image.proofs.Zeros.{zero-all}
use Rattle.block_image.proofs.Counted.{begins, last-or-full, some-used, used-most, within}
use Rattle.block_image.proofs.There.{image-length, blocks-in, index_at, used-at, zero-before, row_at, check-at}

or-true : (a : Bool) → (a || true) ≡ true
or-true true = refl
or-true false = refl

all : {a b c d : Bool} → a ≡ true → b ≡ true → c ≡ true → d ≡ true → (a && b && c && d) ≡ true
all p q r s = λ j. p j && q j && r j && s j

module _ (F : Format) (fit : Fits F) (plan : List ℕ) (small : (i : ℕ) → get_or plan i 0 < 65536)
    (whole : length plan ≡ rows_in F plan * F.words) (few : rows_in F plan ≤ most_jobs) where
  abbrev rows : ℕ
  rows = rows_in F plan

  abbrev n : ℕ
  n = blocks_for F rows

  abbrev bytes : List ℕ
  bytes = image F plan

  low : (k : ℕ) → k < n → k < 1024
  low k l = omega (arith, begins F fit rows k l, mul-le-mul_left {m = 1} {n = F.rows} k fit.some-rows)

  pub used-there : (k : ℕ) → k < n → used_at (block_bytes bytes k) ≡ used_in F rows k
  used-there k l = used-at F fit plan k l (omega (arith, within F fit rows k l))

  -- an unused row is past the plan's end
  unused-zero : (k : ℕ) → k < n → (j : ℕ) → j < 2 * ((F.rows - used_in F rows k) * F.words)
      → block_bytes bytes k (8 + F.zeros + 2 * (used_in F rows k * F.words) + j) ≡ 0
  unused-zero k l j h =
      let u = used_in F rows k in
      let d : F.rows ≡ u + (F.rows - u) = omega (arith, used-most F fit rows k) in
      let e : F.rows * F.words ≡ (u + (F.rows - u)) * F.words = ap (λ (x : ℕ). x * F.words) d in
      let i = 2 * (u * F.words) + j in
      let z : 8 + F.zeros + 2 * (u * F.words) + j ≡ 8 + F.zeros + i = omega arith in
      let past : rows * F.words ≤ k * (F.rows * F.words) + i / 2 =
      ⊎_elim
      (λ p.
      let g : rows ≡ k * F.rows + u = omega (arith, p.1, begins F fit rows k l) in
      let f : rows * F.words ≡ (k * F.rows + u) * F.words = ap (λ (x : ℕ). x * F.words) g in
      omega arith)
      (λ p.
      let g : F.rows - u ≡ 0 = omega (arith, p.0) in
      let f : (F.rows - u) * F.words ≡ 0 * F.words = ap (λ (x : ℕ). x * F.words) g in
      absurd (omega arith))
      (last-or-full F fit rows k l) in
      ap (block_bytes bytes k) z
      ∙ row_at F fit plan k l i (omega arith)
      ∙ ap (λ (x : ℕ). byte_of x (i % 2)) (get_or-eq_default plan 0 (omega (arith, whole)))
      ∙ no_bytes (i % 2) (omega arith)

  each-block : (k : ℕ) → k < n → is_block F bytes k ≡ true
  unfolding is_used
  each-block k l =
      let at = block_bytes bytes k in
      let u = used-there k l in
      let some = le-leb 1 (used_at at) (rw u (some-used F fit rows k l)) in
      let most = le-leb (used_at at) F.rows (rw u (used-most F fit rows k)) in
      let jobs = le-leb (k * F.rows + used_at at) most_jobs (rw u (omega (arith, within F fit rows k l))) in
      let full : (eqb (k + 1) (blocks_in bytes) || eqb (used_at at) F.rows) ≡ true =
      ⊎_elim
      (λ p. λ j. eq-eqb (k + 1) (blocks_in bytes) (p.0 ∙ sym (blocks-in F plan)) j || eqb (used_at at) F.rows)
      (λ p. (λ j. eqb (k + 1) (blocks_in bytes) || eq-eqb (used_at at) F.rows (u ∙ p.0) j) ∙ or-true (eqb (k + 1) (blocks_in bytes)))
      (last-or-full F fit rows k l) in
      let before = zero-all at 8 F.zeros (λ j h. zero-before F fit plan k l j h) in
      let unused = zero-all at _ (2 * ((F.rows - used_at at) * F.words)) (λ j h. ap (λ (x : ℕ). at (8 + F.zeros + 2 * (x * F.words) + j)) u ∙ unused-zero k l j (rw u at h)) in
      all (check-at F fit plan k l) (eq-eqb _ k (index_at F fit plan k l (omega (arith, low k l)))) (all some most full jobs) (λ j. before j && unused j)

  pub accepted : WholeFile F bytes
  unfolding is_whole
  accepted =
      let size = image-length F plan in
      let full : length bytes % 512 ≡ 0 = omega arith in
      let most : n ≤ F.most =
      ⊎_elim (λ (p : n ≤ F.most). p)
      (λ (p : F.most < n). absurd (omega (arith, begins F fit rows F.most p, fit.reach)))
      (either n F.most) in
      record {
        whole = λ j. eq-eqb (length bytes % 512) 0 full j && le-leb (blocks_in bytes) F.most (rw (blocks-in F plan) most) j;
        each = λ k h. each-block k (rw (blocks-in F plan) at h);
      }
