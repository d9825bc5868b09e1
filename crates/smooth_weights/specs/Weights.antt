-- "Weights: s = 0 for B 4, 1 for 8 and 16, 2 above. Weight i is 32 >> min(6, 2i >> s)." (document 01, The predictors)
use Rattle.std.specs.Prelude.{ℕ, ◌*◌, ◌/◌, ◌^◌, min, cond, leb}
use Rattle.std.specs.Int.Count.{count_trailing_zeros}

-- log2 B: B is a power of two, and its digits end with that many zeros
unfoldable pub log2 : ℕ → ℕ
log2 B = count_trailing_zeros 64 B

-- "s = 0 for B 4, 1 for 8 and 16, 2 above."
unfoldable pub scale : ℕ → ℕ
scale B = cond (leb B 4) 0 (cond (leb B 16) 1 2)

-- "Weight i is 32 >> min(6, 2i >> s)."
unfoldable pub weight : ℕ → ℕ → ℕ
weight s i = 32 / 2 ^ min 6 (2 * i / 2 ^ s)
