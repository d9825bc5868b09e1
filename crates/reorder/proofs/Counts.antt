-- A list that holds each number below n once, by counts: its entries are the numbers below n, and none stands twice. Assumes nothing.
use mathlib.Core.Path.{◌≡◌, refl, ◌∙◌}
use mathlib.Core.List.{List, [], ◌∷◌}
use Prim.Native.Nat.{ℕ, zero, suc, ◌+◌, ◌-◌, ◌≤◌, ◌<◌}
use native.Mathlib.Decide.{ℕ_discrete, dec_lt, dec_le}
use native.Mathlib.Omega.{arith}
use lib.ListN.{length}
use Rattle.reorder.specs.Entry.{count}
use Rattle.reorder.specs.Once.{Once}
use Rattle.reorder.proofs.Entry.{count_same, count-other}

-- ---- how many entries are below n

under : ℕ → List ℕ → ℕ
under zero l = zero
under (suc n) l = under n l + count n l

under-nil : (n : ℕ) → under n [] ≡ zero
unfolding under count
under-nil zero = refl
under-nil (suc n) = omega (arith, under-nil n)

under-out : (n x : ℕ) (xs : List ℕ) → n ≤ x → under n (x ∷ xs) ≡ under n xs
unfolding under
under-out zero x xs h = refl
under-out (suc n) x xs h = omega (arith, under-out n x xs (omega arith), count-other {i = n} {x = x} xs (omega arith))

under-in : (n x : ℕ) (xs : List ℕ) → x < n → under n (x ∷ xs) ≡ suc (under n xs)
unfolding under
under-in zero x xs h = omega arith
under-in (suc n) x xs h = elim (ℕ_discrete x n) [
  | yes e ↦ omega (arith, under-out n x xs (omega arith), count_same xs e)
  | no ne ↦ omega (arith, under-in n x xs (omega arith), count-other xs ne)
]

under-le : (n : ℕ) (l : List ℕ) → under n l ≤ length l
under-le n [] = omega (arith, under-nil n)
under-le n (x ∷ xs) = elim (dec_lt x n) [
  | yes h ↦ omega (arith, under-in n x xs h, under-le n xs)
  | no h ↦ omega (arith, under-out n x xs (omega arith), under-le n xs)
]

-- an entry at or above n is not counted
under-lt : (n x : ℕ) (l : List ℕ) → n ≤ x → zero < count x l → under n l < length l
unfolding count
under-lt n x [] h c = omega arith
under-lt n x (y ∷ ys) h c = elim (ℕ_discrete y x) [
  | yes e ↦ omega (arith, under-out n y ys (omega arith), under-le n ys)
  | no ne ↦ let r : under n ys < length ys = under-lt n x ys h (rw (count-other ys ne) at c) in elim (dec_lt y n) [
    | yes k ↦ omega (arith, under-in n y ys k)
    | no k ↦ omega (arith, under-out n y ys (omega arith))
  ]
]

-- all entries are below n: all are counted
under_all : (n : ℕ) (l : List ℕ) → ((x : ℕ) → zero < count x l → x < n) → under n l ≡ length l
under_all n [] h = under-nil n
under_all n (x ∷ xs) h =
    omega (arith, under-in n x xs (h x (omega (arith, count_same {i = x} xs refl))), under_all n xs (λ y c. h y (more y c)))
  where
    more : (y : ℕ) → zero < count y xs → zero < count y (x ∷ xs)
    more y c = elim (ℕ_discrete x y) [ yes e ↦ omega (arith, count_same xs e) | no ne ↦ omega (arith, count-other xs ne) ]

under-each : (n : ℕ) (l : List ℕ) → ((i : ℕ) → i < n → count i l ≡ 1) → under n l ≡ n
unfolding under
under-each zero l h = refl
under-each (suc n) l h = omega (arith, under-each n l (λ i k. h i (omega arith)), h n (omega arith))

-- no number below m twice: at most m entries below m, and each bound's step adds at most one
under-few : (l : List ℕ) → ((x : ℕ) → count x l ≤ 1) → (k m : ℕ) → under (k + m) l ≤ under k l + m
unfolding under
under-few l h k zero = rw (native.Mathlib.Nat.add-zero k) (omega arith)
under-few l h k (suc m) = rw (native.Mathlib.Nat.add-suc k m) (omega (arith, under-few l h k m, h (k + m)))

-- ---- by counts: the entries are the numbers below n, and none stands twice

pub once-below : (n : ℕ) (l : List ℕ) → Once n l → (x : ℕ) → zero < count x l → x < n
once-below n l o x c = elim (dec_lt x n) [
  | yes h ↦ h
  | no h ↦ absurd (omega (arith, under-lt n x l (omega arith) c, under-each n l o.each, o.long))
]

pub once-single : (n : ℕ) (l : List ℕ) → Once n l → (x : ℕ) → count x l ≤ 1
once-single n l o x = elim (dec_lt x n) [
  | yes h ↦ omega (arith, o.each x h)
  | no h ↦ elim (dec_le (count x l) 0) [
    | yes z ↦ omega arith
    | no z ↦ absurd (h (once-below n l o x (omega arith)))
  ]
]

-- n entries below n, none twice: each number below n stands there
pub once-of-counts : (n : ℕ) (l : List ℕ) → length l ≡ n → ((x : ℕ) → zero < count x l → x < n) → ((x : ℕ) → count x l ≤ 1) → Once n l
unfolding under
once-of-counts n l e below single = record { long = e; each = each }
  where
    each : (i : ℕ) → i < n → count i l ≡ 1
    each i h =
        let few : under (suc i + (n - suc i)) l ≤ under (suc i) l + (n - suc i) = under-few l single (suc i) (n - suc i) in
        let all : under n l ≡ n = under_all n l below ∙ e in
        let up : under (0 + i) l ≤ 0 + i = under-few l single 0 i in
        let top : suc i + (n - suc i) ≡ n = omega arith in
        let low : 0 + i ≡ i = omega arith in
        omega (arith, rw (top, all) at few, rw low at up, single i)
