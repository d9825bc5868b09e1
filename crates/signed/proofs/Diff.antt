-- Whole numbers as differences of naturals: `diff a b` is a - b, and a term of ℤ turns into one `diff` by the laws below. Assumes nothing.
use mathlib.Core.Path.{◌≡◌, refl, sym, ◌∙◌, ap}
use mathlib.Core.Bool.{Bool, true, false, not, cond}
use Prim.Native.Nat.{ℕ, zero, suc, ◌+◌, ◌*◌, ◌-◌, ◌/◌, ◌%◌, ◌<◌, ◌≤◌}
use native.Mathlib.Nat.{lt_of_mul-lt-mul_right, div-add-mod', mod-lt, mul-add-div_right}
use native.Mathlib.Omega.{arith}
use lib.Arith.{digits_div}
use lib.Dec.{T, ltb, ltb→lt, nltb→le}
use lib.IntN.{ℤ, pos, negsuc, neg_ℤ, sub_ℕ, ◌+ℤ◌, ◌*ℤ◌}
use lib.Signed.{shr_z}

unfoldable pub diff : ℕ → ℕ → ℤ
diff a b = sub_ℕ a b

-- the two ways that a difference can be
data View (a b : ℕ) : ℤ → Type 0 where
  up : (n : ℕ) → a ≡ n + b → View a b (pos n)
  down : (n : ℕ) → b ≡ a + suc n → View a b (negsuc n)

by-test : (a b : ℕ) (t : Bool) → (T t → a < b) → (T (not t) → b ≤ a) → View a b (cond t (negsuc (b - suc a)) (pos (a - b)))
by-test a b true y n = let h = y tt in down (b - suc a) (omega arith)
by-test a b false y n = let h = n tt in up (a - b) (omega arith)

view : (a b : ℕ) → View a b (diff a b)
unfolding diff
view a b = by-test a b (ltb a b) (ltb→lt a b) (nltb→le a b)

-- a difference is known by what it adds up to
up_is : (a b n : ℕ) → a ≡ n + b → diff a b ≡ pos n
up_is a b n e = go (diff a b) (view a b)
  where
    go : (z : ℤ) → View a b z → z ≡ pos n
    go z (up m h) = ap pos (omega arith)
    go z (down m h) = absurd (omega arith)

down_is : (a b n : ℕ) → b ≡ a + suc n → diff a b ≡ negsuc n
down_is a b n e = go (diff a b) (view a b)
  where
    go : (z : ℤ) → View a b z → z ≡ negsuc n
    go z (up m h) = absurd (omega arith)
    go z (down m h) = ap negsuc (omega arith)

pub eq-diff : (a b c d : ℕ) → a + d ≡ c + b → diff a b ≡ diff c d
eq-diff a b c d e = go (diff c d) (view c d)
  where
    go : (z : ℤ) → View c d z → diff a b ≡ z
    go z (up n h) = up_is a b n (omega arith)
    go z (down n h) = down_is a b n (omega arith)

mixed : (m n : ℕ) → sub_ℕ m n ≡ diff m n
unfolding diff
mixed m n = refl

-- ---- the operations
pub pos-diff : (n : ℕ) → pos n ≡ diff n 0
pos-diff n = sym (up_is n 0 n (omega arith))

pub neg-diff : (a b : ℕ) → neg_ℤ (diff a b) ≡ diff b a
neg-diff a b = go (diff a b) (view a b)
  where
    go : (z : ℤ) → View a b z → neg_ℤ z ≡ diff b a
    go z (up zero h) = sym (up_is b a 0 (omega arith))
    go z (up (suc n) h) = sym (down_is b a n (omega arith))
    go z (down n h) = sym (up_is b a (suc n) (omega arith))

pub neg-pos : (n : ℕ) → neg_ℤ (pos n) ≡ diff 0 n
neg-pos n = ap neg_ℤ (pos-diff n) ∙ neg-diff n 0

pub add-diff : (a b c d : ℕ) → diff a b +ℤ diff c d ≡ diff (a + c) (b + d)
add-diff a b c d = go (diff a b) (diff c d) (view a b) (view c d)
  where
    go : (x y : ℤ) → View a b x → View c d y → x +ℤ y ≡ diff (a + c) (b + d)
    go x y (up m h) (up n k) = sym (up_is (a + c) (b + d) (m + n) (omega arith))
    go x y (up m h) (down n k) = mixed m (suc n) ∙ eq-diff m (suc n) (a + c) (b + d) (omega arith)
    go x y (down m h) (up n k) = mixed n (suc m) ∙ eq-diff n (suc m) (a + c) (b + d) (omega arith)
    go x y (down m h) (down n k) = sym (down_is (a + c) (b + d) (suc (m + n)) (omega arith))

pub mul-diff : (a b k : ℕ) → diff a b *ℤ pos k ≡ diff (a * k) (b * k)
mul-diff a b k = go (diff a b) (view a b)
  where
    go : (z : ℤ) → View a b z → z *ℤ pos k ≡ diff (a * k) (b * k)
    go z (up n h) = sym (up_is (a * k) (b * k) (n * k) (omega (arith, ap (λ (x : ℕ). x * k) h)))
    go z (down n h) =
        ap neg_ℤ (pos-diff (suc n * k)) ∙ neg-diff (suc n * k) 0
        ∙ eq-diff 0 (suc n * k) (a * k) (b * k) (omega (arith, ap (λ (x : ℕ). x * k) h))

-- x + ((a - b) >> log2 m), where x m + a - b is the natural number n
pub shr-diff : (x a b m n : ℕ) → 0 < m → x * m + a ≡ n + b → pos x +ℤ shr_z (diff a b) m ≡ pos (n / m)
shr-diff x a b m n p e = go (diff a b) (view a b)
  where
    whole : (k : ℕ) → n ≡ x * m + k → x + k / m ≡ n / m
    whole k h = sym (ap (λ (i : ℕ). i / m) h ∙ mul-add-div_right p x k)

    -- k below x m, and n what is left: x is the two quotients and 1
    parts : (k : ℕ) → n + suc k ≡ x * m → x ≡ n / m + suc (k / m)
    parts k h =
        let q = k / m in
        let s = k % m in
        let ks : k / m * m + k % m ≡ k = div-add-mod' k m in
        let sl : k % m < m = mod-lt k p in
        let below : k / m < x = lt_of_mul-lt-mul_right m (omega arith) in
        let split : (x - suc (k / m)) * m + (m - suc (k % m)) ≡ n = omega (arith, ap (λ (i : ℕ). i * m) (rest below)) in
        let quo : n / m ≡ x - suc (k / m) = sym (ap (λ (i : ℕ). i / m) split) ∙ digits_div (x - suc (k / m)) (omega arith) in
        omega arith
      where
        rest : k / m < x → x ≡ (x - suc (k / m)) + suc (k / m)
        rest l = omega arith

    go : (z : ℤ) → View a b z → pos x +ℤ shr_z z m ≡ pos (n / m)
    go z (up k h) = ap pos (whole k (omega arith))
    go z (down k h) = mixed x (suc (k / m)) ∙ up_is x (suc (k / m)) (n / m) (parts k (omega arith))
