-- A v in 0..M: v + 0.5, rounded once, is at most M + 0.5, which is an f32 for each of the three depths. Assumes nothing.
use mathlib.Core.Path.{◌≡◌, refl, sym, ap, subst}
use mathlib.Core.Bool.{Bool, true, false, ◌&&◌, ◌||◌, cond, true≢false}
use Prim.Native.Nat.{ℕ, ◌+◌, ◌-◌, ◌*◌, ◌≤◌, ◌<◌}
use native.Mathlib.Nat.{le_of_lt, le_of_eq, le_of_mul-le-mul_right, mul-le-mul_right, mul-one}
use native.Mathlib.Omega.{arith}
use lib.IntN.{ℤ, pos, negsuc}
use lib.Dec.{T, ltb, eqb, ltb→lt, lt→ltb, eqb→eq, lit<}
use lib.Ieee.{Float, nan, inf, fin, binary32, up, down, round, sum, add, lt, le, eq, of_int}
use lib.Ieee.Fits.{down_pos, and_l}
use lib.Ieee.Exact.{HasValue}
use lib.Ieee.Back.{round_whole}
use lib.Ieee.Order.{round_mono}
use Rattle.numbers.specs.Depth.{is_depth, most}
use Rattle.numbers.proofs.Agree.{depth-all}
use Rattle.samples.specs.Sample.{half}
use Rattle.samples.specs.Sample as S

-- either test of `le`, on two that are not negative
le_of : (a b : ℕ) (q : Bool) → (T q → a ≡ b) → T (ltb a b || q) → a ≤ b
le_of a b q e t = go (ltb a b) (ltb→lt a b) t
  where
    go : (l : Bool) → (T l → a < b) → T (l || q) → a ≤ b
    go true f t = le_of_lt (f tt)
    go false f t = le_of_eq (e t)

level : (a b : ℕ) → T (eqb a b && true) → a ≡ b
level a b t = eqb→eq a b (and_l (eqb a b) true t)

-- v ≤ M, as numbers
at_most : (m : ℕ) (e : ℤ) (top : Float) (M : ℕ) → HasValue top false M 1 → T (le (fin false m e) top) → m * up e ≤ M * down e
unfolding le lt eq
at_most m e nan M h t = absurd h
at_most m e (inf s) M h t = absurd h
at_most m e (fin true n d) M h t = absurd (true≢false h.0)
at_most m e (fin false n d) M h t =
    let a = m * up e in
    let k : a * down d ≤ n * up d * down e = le_of (a * down d) (n * up d * down e) (eqb (a * down d) (n * up d * down e) && true) (level (a * down d) (n * up d * down e)) t in
    le_of_mul-le-mul_right {k = down d} (omega (arith, ap (λ (x : ℕ). x * down e) h.1)) (down_pos d)

-- ---- the sum
add-pos : (n : ℕ) (e : ℤ) → add binary32 (fin false n e) half ≡ round binary32 false (n * up e * 2 + 1 * down e) (down e * 2)
unfolding add sum
add-pos n e = refl

add-neg : (n : ℕ) (e : ℤ) → n * up e ≡ 0 → add binary32 (fin true n e) half ≡ round binary32 false (1 * down e - n * up e * 2) (down e * 2)
unfolding add sum
add-neg n e z = go (ltb (n * up e * 2) (1 * down e)) (lt→ltb (n * up e * 2) (1 * down e) (omega (arith, down_pos e)))
  where
    go : (b : Bool) → T b → cond b (round binary32 false (1 * down e - n * up e * 2) (down e * 2)) (round binary32 (true && ltb (1 * down e) (n * up e * 2)) (n * up e * 2 - 1 * down e) (down e * 2)) ≡ round binary32 false (1 * down e - n * up e * 2) (down e * 2)
    go true t = refl
    go false t = absurd t

-- the float M is the number M
top-value : (m : ℕ) → m ≤ 4095 → HasValue (of_int binary32 (pos m)) false m 1
unfolding of_int
top-value m h = round_whole binary32 false m (omega arith)

no-inf : (top : Float) (M : ℕ) → HasValue top false M 1 → T (le (inf false) top) → ⊥
unfolding le lt eq
no-inf nan M h t = h
no-inf (inf s) M h t = h
no-inf (fin s n d) M h t = t

no_nan : T (le S.zero nan) → ⊥
unfolding le lt eq
no_nan t = t

no_minus : T (le S.zero (inf true)) → ⊥
unfolding le lt eq
no_minus t = t

-- -0.0 alone of the numbers with a sign is not below 0
no_size : (n : ℕ) (e : ℤ) → T (le S.zero (fin true n e)) → n * up e ≡ 0
unfolding le lt eq
no_size n e t = let k = eqb→eq (0 * down e) (n * up e * 1) (and_l (eqb (0 * down e) (n * up e * 1)) (eqb (0 * down e) 0) t) in omega arith

-- M + 0.5 as a float
abbrev pub top : ℕ → Float
top M = fin false (2 * M + 1) (negsuc 0)

-- at most that, as numbers
pub at-most-top : (M m : ℕ) (e : ℤ) → T (le (fin false m e) (top M)) → m * up e * 2 ≤ (2 * M + 1) * down e
unfolding le lt eq
at-most-top M m e t =
    let a = m * up e * 2 in
    let b = (2 * M + 1) * 1 * down e in
    let k : a ≤ b = le_of a b (eqb a b && true) (level a b) t in
    omega (arith, ap (λ (x : ℕ). x * down e) (mul-one (2 * M + 1)))

-- what is known of M: it is small, and M + 0.5 is an f32
abbrev Top : ℕ → Type 0
Top M = (M ≤ 4095) × (round binary32 false (2 * M + 1) 2 ≡ top M)

pub depth-top : (D : ℕ) → is_depth D ≡ true → Top (most D)
unfolding round
depth-top D e = depth-all (λ x. Top (most x)) D ((omega arith, refl), ((omega arith, refl), ((omega arith, refl), tt))) e

rounded : (M : ℕ) → Top M → (n d : ℕ) → 0 < d → n * 2 ≤ (2 * M + 1) * d → T (le (round binary32 false n d) (top M))
rounded M t n d D h =
    subst (λ (y : Float). T (le (round binary32 false n d) y)) t.1 (round_mono binary32 n d (2 * M + 1) 2 D (lit< tt) h)

pub sum-most : (v : Float) (M : ℕ) → Top M → T (le S.zero v) → T (le v (of_int binary32 (pos M))) → T (le (add binary32 v half) (top M))
sum-most nan M k z t = absurd (no_nan z)
sum-most (inf true) M k z t = absurd (no_minus z)
sum-most (inf false) M k z t = absurd (no-inf (of_int binary32 (pos M)) M (top-value M k.0) t)
sum-most (fin true n e) M k z t =
    let s = no_size n e z in
    subst (λ (x : Float). T (le x (top M))) (sym (add-neg n e s))
    (rounded M k (1 * down e - n * up e * 2) (down e * 2) (omega (arith, down_pos e)) (omega (arith, s, mul-le-mul_right (down e) (least M))))
  where
    least : (M : ℕ) → 1 ≤ 2 * M + 1
    least M = omega arith
sum-most (fin false n e) M k z t =
    let l = at_most n e (of_int binary32 (pos M)) M (top-value M k.0) t in
    subst (λ (x : Float). T (le x (top M))) (sym (add-pos n e))
    (rounded M k (n * up e * 2 + 1 * down e) (down e * 2) (omega (arith, down_pos e)) (omega arith))

-- ---- and at least 0.5
half-rounded : round binary32 false 1 2 ≡ half
unfolding round
half-rounded = refl

from-half : (n d : ℕ) → 0 < d → 1 * d ≤ n * 2 → T (le half (round binary32 false n d))
from-half n d D h = subst (λ (y : Float). T (le y (round binary32 false n d))) half-rounded (round_mono binary32 1 2 n d (lit< tt) D h)

pub sum-least : (v : Float) (M : ℕ) → Top M → T (le S.zero v) → T (le v (of_int binary32 (pos M))) → T (le half (add binary32 v half))
sum-least nan M k z t = absurd (no_nan z)
sum-least (inf true) M k z t = absurd (no_minus z)
sum-least (inf false) M k z t = absurd (no-inf (of_int binary32 (pos M)) M (top-value M k.0) t)
sum-least (fin true n e) M k z t =
    let s = no_size n e z in
    subst (λ (x : Float). T (le half x)) (sym (add-neg n e s))
    (from-half (1 * down e - n * up e * 2) (down e * 2) (omega (arith, down_pos e)) (omega (arith, s)))
sum-least (fin false n e) M k z t =
    subst (λ (x : Float). T (le half x)) (sym (add-pos n e))
    (from-half (n * up e * 2 + 1 * down e) (down e * 2) (omega (arith, down_pos e)) (omega arith))
