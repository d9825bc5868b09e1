-- What a depth gives to the terms of its samples (document 01, Colour parameters): D, M, 8M+7 and the middle of the range.
use Rattle.std.specs.Prelude.{◌≡◌, ℕ, ◌+◌, ◌*◌, ◌≤◌, ℤ, pos}
use Rattle.numbers.specs.Depth.{most}
use Rattle.colour_terms.specs.Terms.{middle}

pub record OfDepth (D : ℕ) (most-of top : ℤ) (middle-of : ℕ) : Type 0 where
  pub least : 1 ≤ D
  pub largest : D ≤ 12
  pub most-is : most-of ≡ pos (most D)
  pub top-is : top ≡ pos (8 * most D + 7)
  pub middle-is : middle-of ≡ middle D
