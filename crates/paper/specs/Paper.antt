-- "Numbers on paper" of document 01, cases 1 to 14: what the definitions give, and what the paper has, case by case in the same order.
use Rattle.std.specs.Prelude.{true, false, List, [], ◌∷◌, ◌++◌, ℕ, ◌+◌, ◌/◌, ◌%◌, ℤ, pos, neg_ℤ}
use Rattle.std.specs.Float.{binary32}
use Rattle.std.specs.Float.Ieee.{of_bits}
use Rattle.lists.specs.Fill.{tab}
use Rattle.samples.specs.Sample.{reading}
use Rattle.edges.specs.Refs.{Lists, refs_of}
use Rattle.block_spec.specs.declared.spec.IntraRefSpec.{IntraRefSpec}
use Rattle.paeth.specs.Paeth.{paeth}
use Rattle.smooth_spec.specs.Smooth.{smooth_v_at}
use Rattle.directional.specs.Directional.{directional_at}
use Rattle.fixed_product.specs.Product.{ilog2, mul_fixed}
use Rattle.reciprocal.specs.Division.{scale_of}

-- smooth_v at B 4, where all entries above are t and all at the left e: the sample at row r and column c
abbrev smooth_v4 : ℕ → ℕ → ℕ → ℕ → ℤ
smooth_v4 t e r c = smooth_v_at 4 (tab 8 (λ i. pos t)) (tab 8 (λ i. pos e)) (pos 0) r c

-- a block of 64 with no neighbours, whose edges have 128 entries
abbrev alone : ℕ → IntraRefSpec
alone base = record {
  x = 0;
  y = 0;
  b = 64;
  d = 8;
  have_above = false;
  have_left = false;
  top_right = 0;
  bottom_left = 0;
  available_above = 0;
  available_left = 0;
  base = base;
}

-- what `build_refs` writes of it into lists of zeros
abbrev alone_refs : ℕ → Lists
alone_refs base = refs_of [] 64 (alone base) (record { above = tab 128 (λ i. pos 0); left = tab 128 (λ i. pos 0); corner = tab 1 (λ i. pos 0) })

-- a direction at an angle, of chroma, without a filter, at B 4 and D 8, with both neighbours there: the sample at row r and column c
abbrev chroma4 : ℕ → List ℤ → List ℤ → ℤ → ℕ → ℕ → ℤ
chroma4 angle = directional_at 4 4 (pos 255) record {
  angle = angle;
  flags = record { above = true; left = true; luma = false; edge_filter = false; smooth_neighbour = false };
  max_width = 4;
  max_height = 4;
}

-- eight entries from n on
abbrev from : ℕ → List ℤ
from n = tab 8 (λ i. pos (n + i))

unfoldable pub worked_out : List (List ℤ)
worked_out =
    -- 1 to 3: Paeth of l, t, k
    (paeth (pos 10) (pos 25) (pos 20) ∷ []) ∷
    (paeth (pos 25) (pos 10) (pos 20) ∷ []) ∷
    (paeth (pos 10) (pos 20) (pos 15) ∷ []) ∷
    -- 4: smooth_v, B 4, above 100, left[4] 20: a column
    tab 4 (λ r. smooth_v4 100 20 r 0) ∷
    -- 5: above 20, left[4] 100: the first row
    tab 4 (λ c. smooth_v4 20 100 0 c) ∷
    -- 6 and 7: f32 bits 3EFFFFFF, and 127.5
    (pos (reading (of_bits binary32 0x3eff_ffff)) ∷ []) ∷
    (pos (reading (of_bits binary32 0x42ff_0000)) ∷ []) ∷
    -- 8: no neighbours, base 128: above, left, corner, every entry
    ((alone_refs 128).above ++ (alone_refs 128).left ++ (alone_refs 128).corner) ∷
    -- 9: angle 45, where above[i] is i: all rows, one after the other
    tab 16 (λ i. chroma4 45 (from 0) (from 100) (pos 99) (i / 4) (i % 4)) ∷
    -- 10: angle 135: the four samples with x = y, where the corner is 99
    tab 4 (λ i. chroma4 135 (from 0) (from 100) (pos 99) i i) ∷
    -- 11: angle 67, above0 10, above1 42: the first sample
    (chroma4 67 (pos 10 ∷ pos 42 ∷ from 50) (from 100) (pos 99) 0 0 ∷ []) ∷
    -- 12: the product of -32768 and 1, shift 16
    (mul_fixed (neg_ℤ (pos 32768)) (pos 1) 16 ∷ []) ∷
    -- 13: 1048640 by 1048576, shift 16, and the factors exchanged
    (mul_fixed (pos 1048640) (pos 1048576) 16 ∷ mul_fixed (pos 1048576) (pos 1048640) 16 ∷ []) ∷
    -- 14: divisor 1: scale and shift
    (scale_of 1 ∷ pos (ilog2 1) ∷ []) ∷ []

unfoldable pub paper : List (List ℤ)
paper =
    (pos 10 ∷ []) ∷
    (pos 10 ∷ []) ∷
    (pos 15 ∷ []) ∷
    (pos 90 ∷ pos 65 ∷ pos 42 ∷ pos 20 ∷ []) ∷
    (pos 30 ∷ pos 30 ∷ pos 30 ∷ pos 30 ∷ []) ∷
    (pos 1 ∷ []) ∷
    (pos 128 ∷ []) ∷
    (tab 128 (λ i. pos 127) ++ tab 128 (λ i. pos 129) ++ (pos 128 ∷ [])) ∷
    (pos 1 ∷ pos 2 ∷ pos 3 ∷ pos 4 ∷ pos 2 ∷ pos 3 ∷ pos 4 ∷ pos 5 ∷ pos 3 ∷ pos 4 ∷ pos 5 ∷ pos 6 ∷ pos 4 ∷ pos 5 ∷ pos 6 ∷ pos 7 ∷ []) ∷
    (pos 99 ∷ pos 99 ∷ pos 99 ∷ pos 99 ∷ []) ∷
    (pos 22 ∷ []) ∷
    (neg_ℤ (pos 1) ∷ []) ∷
    (pos 16778240 ∷ pos 16777216 ∷ []) ∷
    (pos 65524 ∷ pos 0 ∷ []) ∷ []
