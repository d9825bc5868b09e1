-- How large the nine sums are: wider bounds, none, one sample more. Assumes nothing.
use Prim.Native.Nat.{ℕ, ◌+◌, ◌*◌, ◌≤◌}
use native.Mathlib.Nat as N
use native.Mathlib.Omega.{arith}
use Rattle.colour_samples.specs.declared.nine.Nine.{Nine}
use Rattle.colour_samples.specs.declared.sample.Terms.{Terms}
use Rattle.colour_samples.specs.Nine.{none, added, NineMost, TermsMost}

pub wider : {m n : ℕ} {s : Nine} → m ≤ n → NineMost m s → NineMost n s
wider l h = record {
  a00 = N.le_trans h.a00 l;
  a01 = N.le_trans h.a01 l;
  a02 = N.le_trans h.a02 l;
  a11 = N.le_trans h.a11 l;
  a12 = N.le_trans h.a12 l;
  a22 = N.le_trans h.a22 l;
  y0 = N.le_trans h.y0 l;
  y1 = N.le_trans h.y1 l;
  y2 = N.le_trans h.y2 l;
}

pub nine-start : (m : ℕ) → NineMost m none
nine-start m = record {
  a00 = omega arith;
  a01 = omega arith;
  a02 = omega arith;
  a11 = omega arith;
  a12 = omega arith;
  a22 = omega arith;
  y0 = omega arith;
  y1 = omega arith;
  y2 = omega arith;
}

-- one sample more
pub added-most : (m b y : ℕ) (s : Nine) (t : Terms) → NineMost b s → TermsMost m t → y ≤ m → NineMost (b + m * m) (added s t y)
added-most m b y s t n h hy = record {
  a00 = more n.a00 h.own h.own;
  a01 = more n.a01 h.own h.square;
  a02 = more n.a02 h.own h.middle;
  a11 = more n.a11 h.square h.square;
  a12 = more n.a12 h.square h.middle;
  a22 = more n.a22 h.middle h.middle;
  y0 = more n.y0 h.own hy;
  y1 = more n.y1 h.square hy;
  y2 = more n.y2 h.middle hy;
}
  where
    more : {s p q : ℕ} → s ≤ b → p ≤ m → q ≤ m → s + p * q ≤ b + m * m
    more l h k = omega (arith, N.mul-le-mul h k)
