-- What the check catches in a file: an accepted file with one word changed, or one byte, is refused by 41; and two
-- different accepted files hold different plans. Assumes nothing.
use mathlib.Core.Path.{◌≡◌, refl, sym, ◌∙◌, ap}
use mathlib.Core.Bool.{false}
use mathlib.Core.List.{List}
use mathlib.Core.Logic.{◌⊎◌, inl, inr, ⊎_elim}
use Prim.Native.Nat.{ℕ, zero, suc, ◌+◌, ◌*◌, ◌/◌, ◌%◌, ◌<◌, ◌≤◌}
use native.Mathlib.Nat.{le_of_lt}
use native.Mathlib.Omega.{arith}
use lib.Dec.{eqb}
use lib.ListN.{length, get_or}
use Rattle.std.specs.Prelude.{Err}
use Rattle.signed.proofs.Naturals.{either}
use Rattle.numbers.specs.Answer.{done}
use Rattle.numbers.specs.declared.answer.Refusal.TheVariants.{BadCheck}
use Rattle.refusals.specs.Ladder.{ladder}
use Rattle.refusals.proofs.Ladder.{broken}
use Rattle.block_image.specs.Bytes.{word32, byte_of}
use Rattle.block_image.specs.Rules.{block_bytes, is_whole, is_check}
use Rattle.block_image.specs.Taken.{blocks_in, WholeFile, plan_of}
use Rattle.block_image.specs.Image.{image}
use Rattle.block_image.specs.Refusals.{block_answer, blocks_rules, file_answer}
use Rattle.block_image.specs.Fits.{Fits}
use Rattle.block_image.specs.declared.format.Format.{Format}
use Rattle.block_image.proofs.Digits.{bytes_of}
use Rattle.block_image.proofs.OneWord.{one-word-caught}
use Rattle.block_image.proofs.Block.{shown}
use Rattle.block_image.proofs.Alike.{block-done, answer-same}
use Rattle.block_image.proofs.Walk.{blocks-none, blocks-next, blocks-stay}
use Rattle.block_image.proofs.Steps.{block_refused}
use Rattle.block_image.proofs.Back.{one-image}

module _ (F : Format) (fit : Fits F) (bytes bytes' : List ℕ) (small : (i : ℕ) → get_or bytes i 0 < 256) (small' : (i : ℕ) → get_or bytes' i 0 < 256)
    (accepted : WholeFile F bytes) (size : length bytes ≡ length bytes') where
  abbrev n : ℕ
  n = blocks_in bytes

  n-is : n ≡ blocks_in bytes'
  n-is = ap (λ (x : ℕ). x / 512) size

  -- the first k blocks are the same
  before : (k : ℕ) → k ≤ n → ((i : ℕ) → i < 512 * k → get_or bytes i 0 ≡ get_or bytes' i 0) → ladder (blocks_rules F bytes' k) ≡ done
  before zero h same = blocks-none F bytes'
  before (suc k) h same =
      let b = accepted.each k (omega arith) in
      blocks-next F bytes' k (before k (omega arith) (λ i l. same i (omega arith)))
      ∙ sym (answer-same (block_bytes bytes k) (block_bytes bytes' k) (λ i l. same (512 * k + i) (omega arith)) F fit _ k (shown F bytes k b).fit)
      ∙ ap (λ (x : ℕ). block_answer F (eqb (k + 1) x) k (block_bytes bytes k)) (sym n-is)
      ∙ block-done F bytes k b

  -- a file whose block k is the first to have a wrong check
  check-refused : (k : ℕ) → k < n → ((i : ℕ) → i < 512 * k → get_or bytes i 0 ≡ get_or bytes' i 0) → is_check (block_bytes bytes' k) ≡ false
      → (room slots : ℕ) → file_answer F bytes' room slots ≡ Err BadCheck
  unfolding block_answer
  check-refused k l same wrong room slots =
      let here : ladder (blocks_rules F bytes' (suc k)) ≡ Err BadCheck =
      blocks-next F bytes' k (before k (le_of_lt l) same) ∙ sym (broken _ _ _ _ wrong refl) in
      let all : ladder (blocks_rules F bytes' (blocks_in bytes')) ≡ Err BadCheck =
      blocks-stay F bytes' (suc k) (blocks_in bytes') (omega (arith, n-is)) here in
      block_refused F bytes' room slots (ap (is_whole F) (sym size) ∙ accepted.whole) all

  -- word j of block k is changed, and nothing else
  pub one-word-refused : (k j : ℕ) → k < n → j < 128 → (word32 (block_bytes bytes k) (4 * j) ≡ word32 (block_bytes bytes' k) (4 * j) → ⊥)
      → ((i : ℕ) → (i < 512 * k + 4 * j) ⊎ (512 * k + 4 * j + 4 ≤ i) → get_or bytes i 0 ≡ get_or bytes' i 0)
      → (room slots : ℕ) → file_answer F bytes' room slots ≡ Err BadCheck
  one-word-refused k j l m differs same =
      let at = block_bytes bytes k in
      let at' = block_bytes bytes' k in
      let other : (i : ℕ) → i < 128 → (i ≡ j → ⊥) → word32 at (4 * i) ≡ word32 at' (4 * i) =
      λ i h d.
      let away : (b : ℕ) → b < 4 → at (4 * i + b) ≡ at' (4 * i + b) =
      λ b q. same _ (⊎_elim (λ (p : j ≤ i). ⊎_elim (λ (r : i ≤ j). absurd (d (omega arith))) (λ (r : j < i). inr (omega arith)) (either i j)) (λ (p : i < j). inl (omega arith)) (either j i)) in
      let z : 4 * i + 0 ≡ 4 * i = omega arith in
      λ t. (sym (ap at z) ∙ away 0 (omega arith) ∙ ap at' z) t + 256 * away 1 (omega arith) t + 65536 * away 2 (omega arith) t + 16777216 * away 3 (omega arith) t in
      check-refused k l (λ i h. same i (inl (omega arith))) (one-word-caught at at' (λ b. small _) (λ b. small' _) j m differs other (shown F bytes k (accepted.each k l)).check)

  -- byte i is changed, and nothing else
  pub one-byte-refused : (i : ℕ) → i < 512 * n → (get_or bytes i 0 ≡ get_or bytes' i 0 → ⊥)
      → ((b : ℕ) → (b ≡ i → ⊥) → get_or bytes b 0 ≡ get_or bytes' b 0) → (room slots : ℕ) → file_answer F bytes' room slots ≡ Err BadCheck
  one-byte-refused i l differs same =
      let k = i / 512 in
      let j = i % 512 / 4 in
      let b = i % 4 in
      let z : 512 * k + (4 * j + b) ≡ i = omega arith in
      let of = bytes_of (block_bytes bytes k) (λ x. small _) (4 * j) b (omega arith) in
      let of' = bytes_of (block_bytes bytes' k) (λ x. small' _) (4 * j) b (omega arith) in
      one-word-refused k j (omega arith) (omega arith)
      (λ e. differs (sym (ap (λ (x : ℕ). get_or bytes x 0) z) ∙ sym of ∙ ap (λ (x : ℕ). byte_of x b) e ∙ of' ∙ ap (λ (x : ℕ). get_or bytes' x 0) z))
      (λ x h. same x (λ (e : x ≡ i). ⊎_elim (λ (p : x < 512 * k + 4 * j). omega arith) (λ (p : 512 * k + 4 * j + 4 ≤ x). omega arith) h))

-- two accepted files that hold one plan are equal: so a changed file whose check was made right, if it is accepted, holds another plan
pub one-file : (F : Format) → Fits F → (bytes bytes' : List ℕ) → ((i : ℕ) → get_or bytes i 0 < 256) → ((i : ℕ) → get_or bytes' i 0 < 256)
    → WholeFile F bytes → WholeFile F bytes' → plan_of F bytes ≡ plan_of F bytes' → bytes ≡ bytes'
one-file F fit bytes bytes' small small' a a' e = sym (one-image F fit bytes small a) ∙ ap (image F) e ∙ one-image F fit bytes' small' a'
