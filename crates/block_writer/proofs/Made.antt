-- A block as the code makes it, part by part. Assumes nothing.
use mathlib.Core.Path.{◌≡◌, sym, ◌∙◌, ap}
use mathlib.Core.Bool.{true}
use mathlib.Core.List.{List}
use Prim.Native.Nat.{ℕ, ◌+◌, ◌-◌, ◌*◌, ◌%◌, ◌^◌, ◌<◌, ◌≤◌}
use native.Mathlib.Omega.{arith}
use lib.ListN.{length, get_or, get_or-eq_default}
use borrow.Author.Tests.{lt-ltb, le-ltb}
use Rattle.lists.specs.Fill.{filled}
use Rattle.lists.proofs.Fill.{filled_at}
use Rattle.block_image.specs.Bytes.{byte_of, check_of}
use Rattle.block_image.specs.Rules.{bytes_from, all_zero}
use Rattle.block_image.proofs.Digits.{no_bytes}
use Rattle.block_image.proofs.Zeros.{zero-all}
use Rattle.block_image.proofs.Sum.{sum_same}
use Rattle.block_writer.specs.Made.{word_byte, head_byte, made_body, made_byte}

module _ (k used : ℕ) where
  pub head-index : (i : ℕ) → i < 4 → byte_of k i ≡ head_byte k used (0 + i)
  head-index i h = let z : i ≡ 0 + i = omega arith in sym (ap (head_byte k used) (sym z) ∙ rw (lt-ltb i 4 h))

  pub head-used : (i : ℕ) → i < 4 → byte_of used i ≡ head_byte k used (4 + i)
  head-used i h =
      let z : 4 + i - 4 ≡ i = omega arith in
      rw (le-ltb (4 + i) 4 (omega arith), lt-ltb (4 + i) 8 (omega arith)) (ap (byte_of used) (sym z))

  pub head-zero : (i : ℕ) → 0 ≡ head_byte k used (8 + i)
  head-zero i = rw (le-ltb (8 + i) 4 (omega arith), le-ltb (8 + i) 8 (omega arith))

  module _ (lead : ℕ) (words : List ℕ) where
    pub made-head : (b : ℕ) → b < lead → lead ≤ 508 → head_byte k used b ≡ made_byte k used lead words b
    unfolding made_byte made_body
    made-head b h l = rw (lt-ltb b 508 (omega arith), lt-ltb b lead h)

    pub made_row : (i : ℕ) → lead + i < 508 → word_byte words i ≡ made_byte k used lead words (lead + i)
    unfolding made_byte made_body
    made_row i h =
        let z : lead + i - lead ≡ i = omega arith in
        rw (lt-ltb (lead + i) 508 h, le-ltb (lead + i) lead (omega arith)) (ap (word_byte words) (sym z))

    pub made-before : (b : ℕ) → b < 508 → made_byte k used lead words b ≡ made_body k used lead words b
    unfolding made_byte
    made-before b h = rw (lt-ltb b 508 h)

    -- the check of what stands there
    pub made-check : (ys xs : List ℕ) → ys ≡ filled 508 (made_byte k used lead words) xs → check_of (bytes_from ys 0) ≡ check_of (made_body k used lead words)
    made-check ys xs e =
        ap (λ (x : ℕ). x % 2 ^ 32)
        (sum_same (bytes_from ys 0) (made_body k used lead words) 127
        (λ b h.
        let z : 0 + b ≡ b = omega arith in
        ap (λ (x : ℕ). get_or ys x 0) z ∙ ap (λ l. get_or l b 0) e ∙ filled_at 508 (made_byte k used lead words) xs b 0 h ∙ made-before b h))

    pub made-last : (check : ℕ) → check ≡ check_of (made_body k used lead words) → (i : ℕ) → i < 4 → byte_of check i ≡ made_byte k used lead words (508 + i)
    unfolding made_byte
    made-last check e i h =
        let z : 508 + i - 508 ≡ i = omega arith in
        rw (le-ltb (508 + i) 508 (omega arith)) (λ j. byte_of (e j) (sym z j))

-- past the words there is nothing
pub row-past : (words : List ℕ) (i : ℕ) → 2 * length words ≤ i → 0 ≡ word_byte words i
row-past words i h = sym (ap (λ (x : ℕ). byte_of x (i % 2)) (get_or-eq_default words 0 (omega arith)) ∙ no_bytes (i % 2) (omega arith))

-- so that nothing stands there up to the check
pub made-zero : (k used lead : ℕ) (words ys xs : List ℕ) → ys ≡ filled 508 (made_byte k used lead words) xs → lead + 2 * length words ≤ 508
    → all_zero (bytes_from ys 0) (lead + 2 * length words) (508 - (lead + 2 * length words)) ≡ true
made-zero k used lead words ys xs e l =
    zero-all (bytes_from ys 0) _ _
    (λ j h.
    let i = 2 * length words + j in
    let z : 0 + (lead + 2 * length words + j) ≡ lead + i = omega arith in
    ap (λ (x : ℕ). get_or ys x 0) z
    ∙ ap (λ l. get_or l (lead + i) 0) e
    ∙ filled_at 508 (made_byte k used lead words) xs (lead + i) 0 (omega arith)
    ∙ sym (made_row k used lead words i (omega arith))
    ∙ sym (row-past words i (omega arith)))
