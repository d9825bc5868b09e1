-- "A sample v reads as: v + 0.5 rounded once to f32, then its fraction dropped. -0.0 is in range."
use Rattle.std.specs.Prelude.{◌≡◌, Bool, true, false, ◌&&◌, ℕ, ℤ, pos, negsuc, Float}
use Rattle.std.specs.Float.{fin, binary32}
use Rattle.std.specs.Float.Ieee.{le, add, of_int, to_unsigned}
use Rattle.numbers.specs.Depth.{is_depth, most}

-- 0.0, 0.5 and 2 ^ 13
abbrev pub zero : Float
zero = fin false 0 (pos 0)

abbrev pub half : Float
half = fin false 1 (negsuc 0)

abbrev pub bound : Float
bound = fin false 1 (pos 13)

-- "is .. a number in 0..M": `le` finds no NaN at most anything, and -0.0 not below 0
unfoldable pub is_sample : ℤ → Float → Bool
is_sample M v = le zero v && le v (of_int binary32 M)

-- `add` rounds once, to the nearest f32; `to_unsigned 32` drops the fraction
unfoldable pub reading : Float → ℕ
reading v = to_unsigned 32 (add binary32 v half)

-- v is a sample of one of the three depths
pub record Readable (v : Float) : Type 0 where
  pub depth : ℕ
  pub is : is_depth depth ≡ true
  pub in-range : is_sample (pos (most depth)) v ≡ true
