-- "adds to the nine sums, six of products and three with chroma; adding a sample hands the sums on" (document 01, Colour parameters): one sample
-- more, and how large the sums and the terms are. Sums are whole numbers without a bound.
use Rattle.std.specs.Prelude.{ℕ, ◌+◌, ◌*◌, ◌≤◌}
use Rattle.colour_samples.specs.declared.sample.Terms.{Terms}
use Rattle.colour_samples.specs.declared.nine.Nine.{Nine}

abbrev pub none : Nine
none = record { a00 = 0; a01 = 0; a02 = 0; a11 = 0; a12 = 0; a22 = 0; y0 = 0; y1 = 0; y2 = 0 }

-- one sample more, with its terms t and its chroma y
abbrev pub added : Nine → Terms → ℕ → Nine
added s t y = record {
  a00 = s.a00 + t.own * t.own;
  a01 = s.a01 + t.own * t.square;
  a02 = s.a02 + t.own * t.middle;
  a11 = s.a11 + t.square * t.square;
  a12 = s.a12 + t.square * t.middle;
  a22 = s.a22 + t.middle * t.middle;
  y0 = s.y0 + t.own * y;
  y1 = s.y1 + t.square * y;
  y2 = s.y2 + t.middle * y;
}

-- "one of the nine colour sums exceeds 2,147,483,647": the largest that is accepted
abbrev pub most_sum : ℕ
most_sum = 2147483647

-- each of the three terms is at most m
pub record TermsMost (m : ℕ) (t : Terms) : Type 0 where
  pub own : t.own ≤ m
  pub square : t.square ≤ m
  pub middle : t.middle ≤ m

-- each of the nine is at most m
pub record NineMost (m : ℕ) (s : Nine) : Type 0 where
  pub a00 : s.a00 ≤ m
  pub a01 : s.a01 ≤ m
  pub a02 : s.a02 ≤ m
  pub a11 : s.a11 ≤ m
  pub a12 : s.a12 ≤ m
  pub a22 : s.a22 ≤ m
  pub y0 : s.y0 ≤ m
  pub y1 : s.y1 ≤ m
  pub y2 : s.y2 ≤ m
