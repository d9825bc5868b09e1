-- The fast way to the nine sums (document 01, Colour parameters): products are summed over a line of places, then over many lines, and the third term
-- of the samples, which is the same for all, comes in at the end.
use Rattle.std.specs.Prelude.{ℕ, ◌+◌, ◌*◌, ◌≤◌}
use Rattle.colour_samples.specs.declared.nine.Nine.{Nine}
use Rattle.colour_samples.specs.declared.sample.Terms.{Terms}
use Rattle.colour_lines.specs.declared.fast.PlaceSums.{PlaceSums}

-- sums over samples of products of own term o, square s and chroma y, of each by itself, and their count n
abbrev pub Sums : Type 0
Sums = PlaceSums ℕ

abbrev pub no_place : Sums
no_place = record { oo = 0; os = 0; o = 0; ss = 0; s = 0; n = 0; oy = 0; sy = 0; y = 0 }

abbrev pub line_added : Sums → Terms → ℕ → Sums
line_added p t k = record {
  oo = p.oo + t.own * t.own;
  os = p.os + t.own * t.square;
  o = p.o + t.own * 1;
  ss = p.ss + t.square * t.square;
  s = p.s + t.square * 1;
  n = p.n + 1 * 1;
  oy = p.oy + t.own * k;
  sy = p.sy + t.square * k;
  y = p.y + 1 * k;
}

-- of at most m samples of twelve digits
pub record LineMost (m : ℕ) (p : Sums) : Type 0 where
  pub oo : p.oo ≤ m * (4095 * 4095)
  pub os : p.os ≤ m * (4095 * 4095)
  pub o : p.o ≤ m * 4095
  pub ss : p.ss ≤ m * (4095 * 4095)
  pub s : p.s ≤ m * 4095
  pub n : p.n ≤ m
  pub oy : p.oy ≤ m * (4095 * 4095)
  pub sy : p.sy ≤ m * (4095 * 4095)
  pub y : p.y ≤ m * 4095

-- the nine sums with a line more, whose third term is m
abbrev pub with_line : ℕ → Nine → Sums → Nine
with_line m s p = record {
  a00 = s.a00 + p.oo * 1;
  a01 = s.a01 + p.os * 1;
  a02 = s.a02 + p.o * m;
  a11 = s.a11 + p.ss * 1;
  a12 = s.a12 + p.s * m;
  a22 = s.a22 + p.n * (m * m);
  y0 = s.y0 + p.oy * 1;
  y1 = s.y1 + p.sy * 1;
  y2 = s.y2 + p.y * m;
}

-- the same sums over many lines, with a line more, and the nine sums that they stand for where the third term is m
abbrev pub plus_line : Sums → Sums → Sums
plus_line u p = record {
  oo = u.oo + p.oo;
  os = u.os + p.os;
  o = u.o + p.o;
  ss = u.ss + p.ss;
  s = u.s + p.s;
  n = u.n + p.n;
  oy = u.oy + p.oy;
  sy = u.sy + p.sy;
  y = u.y + p.y;
}

abbrev pub nine_of : ℕ → Sums → Nine
nine_of m u = record {
  a00 = u.oo;
  a01 = u.os;
  a02 = u.o * m;
  a11 = u.ss;
  a12 = u.s * m;
  a22 = u.n * (m * m);
  y0 = u.oy;
  y1 = u.sy;
  y2 = u.y * m;
}

pub record LongMost (m : ℕ) (u : Sums) : Type 0 where
  pub oo : u.oo ≤ m
  pub os : u.os ≤ m
  pub o : u.o ≤ m
  pub ss : u.ss ≤ m
  pub s : u.s ≤ m
  pub n : u.n ≤ m
  pub oy : u.oy ≤ m
  pub sy : u.sy ≤ m
  pub y : u.y ≤ m
