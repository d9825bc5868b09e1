-- Laws of the fast way: a sample that a line takes is one that the nine sums take once the line is in, and how much a line can hold. Assumes nothing.
use mathlib.Core.Path.{◌≡◌}
use Prim.Native.Nat.{ℕ, ◌+◌, ◌*◌, ◌≤◌}
use native.Mathlib.Nat as N
use native.Mathlib.Omega.{arith}
use Rattle.colour_samples.specs.declared.nine.Nine.{Nine}
use Rattle.colour_samples.specs.declared.sample.Terms.{Terms}
use Rattle.colour_samples.specs.Nine.{added, NineMost, TermsMost}
use Rattle.colour_lines.specs.Fast.{Sums, no_place, line_added, with_line, LineMost}

-- ---- with the third term m for the 1 that stood for it
once : (s p x : ℕ) → s + (p + x) * 1 ≡ s + p * 1 + x
once s p x = omega arith

left : (s p o m : ℕ) → s + (p + o * 1) * m ≡ s + p * m + o * m
left s p o m = omega arith

right : (s p o m : ℕ) → s + (p + 1 * o) * m ≡ s + p * m + m * o
right s p o m = omega arith

both : (s p m : ℕ) → s + (p + 1 * 1) * (m * m) ≡ s + p * (m * m) + m * m
both s p m = omega arith

pub line_taken : (s : Nine) (p : Sums) (t : Terms) (k : ℕ) → with_line t.middle s (line_added p t k) ≡ added (with_line t.middle s p) t k
line_taken s p t k = λ j. record {
  a00 = once s.a00 p.oo (t.own * t.own) j;
  a01 = once s.a01 p.os (t.own * t.square) j;
  a02 = left s.a02 p.o t.own t.middle j;
  a11 = once s.a11 p.ss (t.square * t.square) j;
  a12 = left s.a12 p.s t.square t.middle j;
  a22 = both s.a22 p.n t.middle j;
  y0 = once s.y0 p.oy (t.own * k) j;
  y1 = once s.y1 p.sy (t.square * k) j;
  y2 = right s.y2 p.y k t.middle j;
}

pub line-nothing : (m : ℕ) (s : Nine) → with_line m s no_place ≡ s
line-nothing m s = λ j. record {
  a00 = zero_more s.a00 1 j;
  a01 = zero_more s.a01 1 j;
  a02 = zero_more s.a02 m j;
  a11 = zero_more s.a11 1 j;
  a12 = zero_more s.a12 m j;
  a22 = zero_more s.a22 (m * m) j;
  y0 = zero_more s.y0 1 j;
  y1 = zero_more s.y1 1 j;
  y2 = zero_more s.y2 m j;
}
  where
    zero_more : (a b : ℕ) → a + 0 * b ≡ a
    zero_more a b = omega arith

-- ---- how much
pub line-empty : LineMost 0 no_place
line-empty = record {
  oo = omega arith;
  os = omega arith;
  o = omega arith;
  ss = omega arith;
  s = omega arith;
  n = omega arith;
  oy = omega arith;
  sy = omega arith;
  y = omega arith;
}

pub line-added : {m k : ℕ} {p : Sums} {t : Terms} → LineMost m p → TermsMost 4095 t → k ≤ 4095 → LineMost (m + 1) (line_added p t k)
line-added {m} h t k = record {
  oo = more h.oo t.own t.own;
  os = more h.os t.own t.square;
  o = omega (arith, h.o, t.own);
  ss = more h.ss t.square t.square;
  s = omega (arith, h.s, t.square);
  n = omega (arith, h.n);
  oy = more h.oy t.own k;
  sy = more h.sy t.square k;
  y = omega (arith, h.y);
}
  where
    more : {s x y : ℕ} → s ≤ m * (4095 * 4095) → x ≤ 4095 → y ≤ 4095 → s + x * y ≤ (m + 1) * (4095 * 4095)
    more a hx hy = omega (arith, N.mul-le-mul hx hy)

pub line-wider : {m n : ℕ} {p : Sums} → m ≤ n → LineMost m p → LineMost n p
line-wider {m} {n} l h = record {
  oo = omega (arith, h.oo);
  os = omega (arith, h.os);
  o = omega (arith, h.o);
  ss = omega (arith, h.ss);
  s = omega (arith, h.s);
  n = omega (arith, h.n);
  oy = omega (arith, h.oy);
  sy = omega (arith, h.sy);
  y = omega (arith, h.y);
}

pub line-grown : {b m n : ℕ} {s : Nine} {p : Sums} → m ≤ 4095 → NineMost b s → LineMost n p → NineMost (b + n * (4095 * 4095)) (with_line m s p)
line-grown {b} {m} {n} l h k = record {
  a00 = omega (arith, h.a00, k.oo);
  a01 = omega (arith, h.a01, k.os);
  a02 = omega (arith, h.a02, N.mul-le-mul k.o l);
  a11 = omega (arith, h.a11, k.ss);
  a12 = omega (arith, h.a12, N.mul-le-mul k.s l);
  a22 = omega (arith, h.a22, N.mul-le-mul k.n (N.mul-le-mul l l));
  y0 = omega (arith, h.y0, k.oy);
  y1 = omega (arith, h.y1, k.sy);
  y2 = omega (arith, h.y2, N.mul-le-mul k.y l);
}
