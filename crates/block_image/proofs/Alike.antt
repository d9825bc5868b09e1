-- Blocks of the same bytes have the same answer, and an accepted block's answer is done. Assumes nothing.
use mathlib.Core.Path.{◌≡◌, refl, ◌∙◌, ap}
use mathlib.Core.Bool.{Bool, true, cond, ◌&&◌}
use mathlib.Core.List.{List}
use Rattle.std.specs.Prelude.{Err}
use Prim.Native.Nat.{ℕ, zero, suc, ◌+◌, ◌-◌, ◌*◌, ◌%◌, ◌^◌, ◌<◌, ◌≤◌}
use native.Mathlib.Omega.{arith}
use lib.Dec.{eqb}
use Rattle.signed.proofs.Range.{and_both}
use Rattle.numbers.specs.declared.answer.Refusal.TheVariants.{BadCheck, OutOfTurn, BadUsed, NotZero}
use Rattle.block_image.specs.Bytes.{word32}
use Rattle.block_image.specs.Rules.{block_bytes, used_at, is_check, is_index, is_used, all_zero, is_zero}
use Rattle.block_image.specs.Taken.{blocks_in, is_block}
use Rattle.block_image.specs.Refusals.{block_answer}
use Rattle.block_image.specs.Fits.{Fits}
use Rattle.block_image.specs.declared.format.Format.{Format}
use Rattle.block_image.proofs.Fits.{rows_apart}
use Rattle.block_image.proofs.Sum.{sum_same}
use Rattle.numbers.specs.Answer.{done, Answer}

-- the answer, by what the four tests say
abbrev by : Bool → Bool → Bool → Bool → Answer
by check index used zeros = cond check (cond index (cond used (cond zeros done (Err NotZero)) (Err BadUsed)) (Err OutOfTurn)) (Err BadCheck)

pub block-done : (F : Format) (bytes : List ℕ) (k : ℕ) → is_block F bytes k ≡ true
    → block_answer F (eqb (k + 1) (blocks_in bytes)) k (block_bytes bytes k) ≡ done
unfolding block_answer
block-done F bytes k e =
    let at = block_bytes bytes k in
    let p = and_both (is_check at && is_index k at && is_used F (eqb (k + 1) (blocks_in bytes)) k (used_at at)) (is_zero F (used_at at) at) e in
    let q = and_both (is_check at && is_index k at) _ p.0 in
    let c = and_both (is_check at) (is_index k at) q.0 in
    λ j. by (c.0 j) (c.1 j) (q.1 j) (p.1 j)

module _ (at at' : ℕ → ℕ) (same : (b : ℕ) → b < 512 → at b ≡ at' b) where
  word_same : (i : ℕ) → i + 4 ≤ 512 → word32 at i ≡ word32 at' i
  word_same i h j =
      same i (omega arith) j + 256 * same (i + 1) (omega arith) j + 65536 * same (i + 2) (omega arith) j + 16777216 * same (i + 3) (omega arith) j

  zero_same : (i n : ℕ) → i + n ≤ 512 → all_zero at i n ≡ all_zero at' i n
  unfolding all_zero
  zero_same i zero h = refl
  zero_same i (suc n) h = λ j. zero_same i n (omega arith) j && eqb (same (i + n) (omega arith) j) 0

  check-same : is_check at ≡ is_check at'
  unfolding is_check
  check-same = λ j. eqb (word_same 508 (omega arith) j) (sum_same at at' 127 (λ b h. same b (omega arith)) j % 2 ^ 32)

  pub answer-same : (F : Format) → Fits F → (last : Bool) (k : ℕ) → used_at at ≤ F.rows → block_answer F last k at ≡ block_answer F last k at'
  unfolding block_answer
  answer-same F fit last k u =
      let w = word_same 4 (omega arith) in
      let before = zero_same 8 F.zeros (omega (arith, fit.fills)) in
      let unused = zero_same (8 + F.zeros + 2 * (used_at at * F.words)) (2 * ((F.rows - used_at at) * F.words)) (omega (arith, fit.fills, rows_apart F (used_at at) u)) in
      let zeros : is_zero F (used_at at) at ≡ is_zero F (used_at at') at' =
      (λ j. before j && unused j) ∙ ap (λ (x : ℕ). is_zero F x at') w in
      λ j. by (check-same j) (eqb (word_same 0 (omega arith) j) k) (is_used F last k (w j)) (zeros j)
