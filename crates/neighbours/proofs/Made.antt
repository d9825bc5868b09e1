-- A neighbour that the code has made is the one of the definitions: what its fill asks, and what it gives. Assumes nothing.
use mathlib.Core.Path.{◌≡◌, sym, ◌∙◌, subst}
use mathlib.Core.Bool.{true}
use mathlib.Core.List.{List}
use Prim.Native.Nat.{ℕ, ◌*◌, ◌<◌}
use lib.IntN.{ℤ}
use lib.Ieee.{Float}
use lib.ListN.{length}
use Rattle.lists.specs.Fill.{filled}
use Rattle.lists.proofs.Fill.{filled-same}
use Rattle.samples.specs.Sample.{Readable}
use Rattle.block_spec.specs.declared.spec.IntraRefSpec.{IntraRefSpec}
use Rattle.block_spec.specs.Behind.{Behind}
use Rattle.sides.specs.declared.Side.{Side}
use Rattle.sides.specs.Side.{side_at, side_value, SideLies}
use Rattle.sides.specs.Values.{value_of}

module _ (plane : List Float) (made side : Side) (is : made ≡ side) where
  abbrev pub Asked : Side → Type 0
  Asked x = SideLies (length plane) x × (x.there ≡ true → (c : ℕ) → c < 2 * x.bs → Readable (side_at plane x c))

  pub asked : Asked side → Asked made
  asked = subst Asked (sym is)

  pub gives : (W : ℕ) (s : IntraRefSpec) (spare spared : ℤ) (behind : ℕ → Behind) (xs : List ℤ) → side.bs ≡ s.b → spare ≡ spared
      → ((c : ℕ) → side_value plane side spared c ≡ value_of W plane (behind c))
      → filled (2 * made.bs) (side_value plane made spare) xs ≡ filled (2 * s.b) (λ c. value_of W plane (behind c)) xs
  gives W s spare spared behind xs size e values =
      (λ j. filled (2 * (is j).bs) (side_value plane (is j) (e j)) xs)
      ∙ (λ j. filled (2 * size j) (side_value plane side spared) xs)
      ∙ filled-same (2 * s.b) _ _ xs (λ c h. values c)
