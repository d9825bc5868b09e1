-- "Each `F4` row sums to 128, row 32 - i is row i reversed for i from 1 to 31" (document 01, Directions): by tests that antt computes, and a lemma to
-- each entry. Assumes nothing.
use mathlib.Core.Bool.{Bool, true, cond}
use mathlib.Core.Path.{◌≡◌}
use mathlib.Core.List.{List, []}
use Prim.Native.Nat.{ℕ, ◌-◌, ◌≤◌, ◌<◌}
use lib.Dec.{T, leb, leb→le}
use lib.IntN.{ℤ, pos, nat_abs, ◌+ℤ◌}
use lib.ListN.{get_or}
use borrow.Author.Tests.{le-leb}
use Rattle.signed.proofs.Order.{eq_z, eq_z→eq}
use Rattle.lists.proofs.Table.{both, both_left, both_right, at, at2}
use Rattle.taps.specs.F4.{filters, f4}
use Rattle.taps.specs.Interp.{Taps}

-- ---- each row sums to 128
sums : ℕ → List ℤ → Bool
sums i xs = eq_z (get_or xs 0 (pos 0) +ℤ get_or xs 1 (pos 0) +ℤ get_or xs 2 (pos 0) +ℤ get_or xs 3 (pos 0)) (pos 128)

pub f4-sum : (s : ℕ) → s < 32 → f4 s 0 +ℤ f4 s 1 +ℤ f4 s 2 +ℤ f4 s 3 ≡ pos 128
unfolding sums
f4-sum s h = eq_z→eq (f4 s 0 +ℤ f4 s 1 +ℤ f4 s 2 +ℤ f4 s 3) (pos 128) (at [] sums filters tt s h)

-- ---- row 32 - i is row i reversed
turned : ℕ → ℕ → ℤ → Bool
turned s t x = cond (leb 1 s) (eq_z x (f4 (32 - s) (3 - t))) true

pub f4-mirror : (s t : ℕ) → 1 ≤ s → s < 32 → t < 4 → f4 s t ≡ f4 (32 - s) (3 - t)
unfolding turned
f4-mirror s t l h k =
    let u : T (eq_z (f4 s t) (f4 (32 - s) (3 - t))) = rw (le-leb 1 s l) at (at2 (pos 0) turned 4 filters tt s t h k) in
    eq_z→eq (f4 s t) (f4 (32 - s) (3 - t)) u

-- ---- the taps are small
small : ℕ → List ℤ → Bool
small i xs =
    both (leb (nat_abs (get_or xs 0 (pos 0))) 128)
    (both (leb (nat_abs (get_or xs 1 (pos 0))) 128) (both (leb (nat_abs (get_or xs 2 (pos 0))) 128) (leb (nat_abs (get_or xs 3 (pos 0))) 128)))

pub f4-taps : (s : ℕ) → s < 32 → Taps (f4 s 0) (f4 s 1) (f4 s 2) (f4 s 3)
unfolding small
f4-taps s h =
    let xs = get_or filters s [] in
    let a = leb (nat_abs (get_or xs 0 (pos 0))) 128 in
    let b = leb (nat_abs (get_or xs 1 (pos 0))) 128 in
    let c = leb (nat_abs (get_or xs 2 (pos 0))) 128 in
    let d = leb (nat_abs (get_or xs 3 (pos 0))) 128 in
    let t : T (both a (both b (both c d))) = at [] small filters tt s h in
    let u : T (both b (both c d)) = both_right a _ t in
    let v : T (both c d) = both_right b _ u in
    record {
      t0 = leb→le _ 128 (both_left a _ t);
      t1 = leb→le _ 128 (both_left b _ u);
      t2 = leb→le _ 128 (both_left c _ v);
      t3 = leb→le _ 128 (both_right c _ v);
    }
