-- Laws of the sums of the fast way over many lines, by the nine sums that they stand for. Assumes nothing.
use mathlib.Core.Path.{◌≡◌}
use Prim.Native.Nat.{ℕ, ◌+◌, ◌*◌, ◌≤◌}
use native.Mathlib.Nat as N
use native.Mathlib.Omega.{arith}
use Rattle.colour_terms.specs.Terms.{middle}
use Rattle.colour_samples.specs.Nine.{none, NineMost}
use Rattle.colour_lines.specs.Fast.{Sums, with_line, no_place, plus_line, nine_of, LongMost}

once : (u p : ℕ) → u + p ≡ u + p * 1
once u p = omega arith

times : (u p m : ℕ) → (u + p) * m ≡ u * m + p * m
times u p m = omega arith

-- a line more is a line that the nine sums take
pub nine-plus : (m : ℕ) (u : Sums) (p : Sums) → nine_of m (plus_line u p) ≡ with_line m (nine_of m u) p
nine-plus m u p = λ j. record {
  a00 = once u.oo p.oo j;
  a01 = once u.os p.os j;
  a02 = times u.o p.o m j;
  a11 = once u.ss p.ss j;
  a12 = times u.s p.s m j;
  a22 = times u.n p.n (m * m) j;
  y0 = once u.oy p.oy j;
  y1 = once u.sy p.sy j;
  y2 = times u.y p.y m j;
}

pub nine-none : (m : ℕ) → nine_of m no_place ≡ none
nine-none m = λ j. record { a00 = 0; a01 = 0; a02 = zero m j; a11 = 0; a12 = zero m j; a22 = zero (m * m) j; y0 = 0; y1 = 0; y2 = zero m j }
  where
    zero : (n : ℕ) → 0 * n ≡ 0
    zero n = omega arith

-- no sum is more than the one that it stands for
pub long-most : {b m : ℕ} {u : Sums} → 1 ≤ m → NineMost b (nine_of m u) → LongMost b u
long-most {b} {m} {u} one h = record {
  oo = h.a00;
  os = h.a01;
  o = N.le_trans (times_more u.o m one) h.a02;
  ss = h.a11;
  s = N.le_trans (times_more u.s m one) h.a12;
  n = N.le_trans (times_more u.n (m * m) (N.mul-le-mul one one)) h.a22;
  oy = h.y0;
  sy = h.y1;
  y = N.le_trans (times_more u.y m one) h.y2;
}
  where
    times_more : (a k : ℕ) → 1 ≤ k → a ≤ a * k
    times_more a k l = omega (arith, N.mul-le-mul (N.le_refl a) l)

pub middle-one : (D : ℕ) → 1 ≤ middle D
middle-one D = N.one-le-pow _ 2 (N.zero-lt-suc 1)
