-- x + (((y - x) w + h) >> k) is a mean, w parts of m = 2^k of y and the others of x: a natural number that x and y enclose. Assumes nothing.
use mathlib.Core.Path.{◌≡◌, ◌∙◌, ap}
use Prim.Native.Nat.{ℕ, suc, ◌+◌, ◌*◌, ◌-◌, ◌/◌, ◌<◌, ◌≤◌}
use native.Mathlib.Nat.{mul-le-mul_right, div-lt_iff_lt-mul, le_of_suc-le-suc}
use native.Mathlib.Omega.{arith}
use lib.IntN.{ℤ, pos, ◌+ℤ◌, ◌-ℤ◌, ◌*ℤ◌}
use lib.Signed.{shr_z}
use Rattle.signed.proofs.Diff.{diff, eq-diff, pos-diff, neg-pos, add-diff, mul-diff, shr-diff}

sub-pos : (a b : ℕ) → pos a -ℤ pos b ≡ diff a b
sub-pos a b = simp (pos-diff, neg-pos, add-diff) (eq-diff _ _ a b (omega arith))

add-pos : (a b h : ℕ) → diff a b +ℤ pos h ≡ diff (a + h) b
add-pos a b h = simp (pos-diff, add-diff) (eq-diff _ _ (a + h) b (omega arith))

rest : (m w : ℕ) → w ≤ m → m ≡ (m - w) + w
rest m w l = omega arith

pub mean-is : (x y w h m : ℕ) → 0 < m → w ≤ m → pos x +ℤ shr_z ((pos y -ℤ pos x) *ℤ pos w +ℤ pos h) m ≡ pos ((y * w + x * (m - w) + h) / m)
mean-is x y w h m p l =
    ap (λ (z : ℤ). pos x +ℤ shr_z (z *ℤ pos w +ℤ pos h) m) (sub-pos y x)
    ∙ ap (λ (z : ℤ). pos x +ℤ shr_z (z +ℤ pos h) m) (mul-diff y x w)
    ∙ ap (λ (z : ℤ). pos x +ℤ shr_z z m) (add-pos (y * w) (x * w) h)
    ∙ shr-diff x (y * w + h) (x * w) m (y * w + x * (m - w) + h) p (omega (arith, ap (λ (i : ℕ). x * i) (rest m w l)))

pub mean-most : (x y w h m M : ℕ) → 0 < m → w ≤ m → h < m → x ≤ M → y ≤ M → (y * w + x * (m - w) + h) / m ≤ M
mean-most x y w h m M p l q hx hy =
    let s : (y * w + x * (m - w) + h) < suc M * m =
    omega (arith, mul-le-mul_right w hy, mul-le-mul_right (m - w) hx, ap (λ (i : ℕ). M * i) (rest m w l)) in
    le_of_suc-le-suc ((div-lt_iff_lt-mul p).1 s)
