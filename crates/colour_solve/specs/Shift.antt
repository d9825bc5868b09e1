-- "Sums are shifted by 22 - 2D - ceil(log2 count), so each ends at or below 2^22." (document 01, Colour parameters), over whole numbers.
use Rattle.std.specs.Prelude.{cond, ℕ, ◌+◌, ◌-◌, ◌*◌, ◌/◌, ◌^◌, ltb, eqb, pos}
use Rattle.fixed_product.specs.Product.{ilog2}
use Rattle.elimination.specs.Elimination.{regular, solved}
use Rattle.elimination.specs.declared.Sums.{Sums}
use Rattle.elimination.specs.declared.Params.{Params}
use Rattle.colour_samples.specs.declared.nine.Nine.{Nine}

-- ceil(log2 n)
unfoldable pub ceil_log2 : ℕ → ℕ
ceil_log2 n = cond (ltb n 2) 0 (ilog2 (n - 1) + 1)

-- 2D + ceil(log2 n)
unfoldable pub reach : ℕ → ℕ → ℕ
reach D n = 2 * D + ceil_log2 n

-- s shifted by 22 - e: up where e is below 22, and down where it is above
unfoldable pub shifted : ℕ → ℕ → ℕ
shifted e s = s * 2 ^ (22 - e) / 2 ^ (e - 22)

unfoldable pub shifted_sums : ℕ → Nine → Sums
shifted_sums e s = record {
  a00 = pos (shifted e s.a00);
  a01 = pos (shifted e s.a01);
  a02 = pos (shifted e s.a02);
  a11 = pos (shifted e s.a11);
  a12 = pos (shifted e s.a12);
  a22 = pos (shifted e s.a22);
  y0 = pos (shifted e s.y0);
  y1 = pos (shifted e s.y1);
  y2 = pos (shifted e s.y2);
}

-- "No sample counted gives 0, 0, 65536."
abbrev pub flat : Params
flat = record { x0 = pos 0; x1 = pos 0; x2 = pos 65536 }

-- the parameters of n samples with the sums s
unfoldable pub params_of : ℕ → ℕ → Nine → Params
params_of D n s = cond (eqb n 0) flat (solved (shifted_sums (reach D n) s) (pos (regular D)))
