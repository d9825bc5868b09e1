-- The bytes of a word of bytes are those bytes, and the word of a number's bytes is that number. Assumes nothing.
use mathlib.Core.Path.{◌≡◌, ap, sym, ◌∙◌}
use Prim.Native.Nat.{ℕ, zero, suc, ◌+◌, ◌*◌, ◌/◌, ◌%◌, ◌<◌}
use native.Mathlib.Nat.{div-div-eq-div-mul, div-add-mod, div-one, mod-eq_of_lt}
use native.Mathlib.Omega.{arith}
use Rattle.block_image.specs.Bytes.{word16, word32, byte_of}

-- four places, and two, one by one
by-four : (P : ℕ → Type 0) → P 0 → P 1 → P 2 → P 3 → (b : ℕ) → b < 4 → P b
by-four P a b c d zero h = a
by-four P a b c d (suc zero) h = b
by-four P a b c d (suc (suc zero)) h = c
by-four P a b c d (suc (suc (suc zero))) h = d
by-four P a b c d (suc (suc (suc (suc n)))) h = absurd (omega arith)

by_two : (P : ℕ → Type 0) → P 0 → P 1 → (b : ℕ) → b < 2 → P b
by_two P a b zero h = a
by_two P a b (suc zero) h = b
by_two P a b (suc (suc n)) h = absurd (omega arith)

module _ (at : ℕ → ℕ) (small : (b : ℕ) → at b < 256) (i : ℕ) where
  pub bytes_of : (b : ℕ) → b < 4 → byte_of (word32 at i) b ≡ at (i + b)
  bytes_of =
      let p = small i in
      let q = small (i + 1) in
      let r = small (i + 2) in
      let s = small (i + 3) in
      let e : byte_of (word32 at i) 0 ≡ at i = omega arith in
      let z : i ≡ i + 0 = omega arith in
      let one : word32 at i / 256 ≡ at (i + 1) + 256 * at (i + 2) + 65536 * at (i + 3) = omega arith in
      let two : word32 at i / 65536 ≡ at (i + 2) + 256 * at (i + 3) = omega arith in
      let three : word32 at i / 16777216 ≡ at (i + 3) = omega arith in
      by-four (λ b. byte_of (word32 at i) b ≡ at (i + b)) (e ∙ ap at z) (ap (λ (x : ℕ). x % 256) one ∙ omega arith) (ap (λ (x : ℕ). x % 256) two ∙ omega arith) (ap (λ (x : ℕ). x % 256) three ∙ omega arith)

  pub both_of : (b : ℕ) → b < 2 → byte_of (word16 at i) b ≡ at (i + b)
  both_of =
      let p = small i in
      let q = small (i + 1) in
      let e : byte_of (word16 at i) 0 ≡ at i = omega arith in
      let z : i ≡ i + 0 = omega arith in
      by_two (λ b. byte_of (word16 at i) b ≡ at (i + b)) (e ∙ ap at z) (omega arith)

  pub word-most : word32 at i < 4294967296
  word-most =
      let p = small i in
      let q = small (i + 1) in
      let r = small (i + 2) in
      let s = small (i + 3) in
      omega arith

digits : (n a b c d q r s : ℕ) → 256 * q + a ≡ n → 256 * r + b ≡ q → 256 * s + c ≡ r → s ≡ d → a + 256 * b + 65536 * c + 16777216 * d ≡ n
digits n a b c d q r s e f g h = omega arith

module _ (at : ℕ → ℕ) (i n : ℕ) where
  pub word-is : n < 4294967296 → ((b : ℕ) → b < 4 → at (i + b) ≡ byte_of n b) → word32 at i ≡ n
  word-is h e =
      let z : i ≡ i + 0 = omega arith in
      let p : at i ≡ n % 256 = ap at z ∙ e 0 (omega arith) ∙ ap (λ (x : ℕ). x % 256) (div-one n) in
      let q : at (i + 1) ≡ n / 256 % 256 = e 1 (omega arith) in
      let r : at (i + 2) ≡ n / 65536 % 256 = e 2 (omega arith) in
      let s : at (i + 3) ≡ n / 16777216 % 256 = e 3 (omega arith) in
      let two : n / 256 / 256 ≡ n / 65536 = div-div-eq-div-mul n 256 256 in
      let three : n / 65536 / 256 ≡ n / 16777216 = div-div-eq-div-mul n 65536 256 in
      let top : n / 16777216 < 256 = omega arith in
      digits n (at i) (at (i + 1)) (at (i + 2)) (at (i + 3)) (n / 256) (n / 65536) (n / 16777216)
      ((λ j. 256 * (n / 256) + p j) ∙ div-add-mod n 256)
      ((λ j. 256 * sym two j + q j) ∙ div-add-mod (n / 256) 256)
      ((λ j. 256 * sym three j + r j) ∙ div-add-mod (n / 65536) 256)
      (sym (s ∙ mod-eq_of_lt top))

  pub both_is : n < 65536 → ((b : ℕ) → b < 2 → at (i + b) ≡ byte_of n b) → word16 at i ≡ n
  both_is h e =
      let z : i ≡ i + 0 = omega arith in
      let p : at i ≡ n / 1 % 256 = ap at z ∙ e 0 (omega arith) in
      let q : at (i + 1) ≡ n / 256 % 256 = e 1 (omega arith) in
      omega arith

pub no_bytes : (j : ℕ) → j < 2 → byte_of 0 j ≡ 0
no_bytes j l = both_of (λ b. 0) (λ b. omega arith) 0 j l
