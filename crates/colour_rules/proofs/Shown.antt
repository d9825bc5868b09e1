-- What rule 13 has shown of each place of a block: its own luma and the direction's are in range. Assumes nothing.
use mathlib.Core.Path.{◌≡◌}
use mathlib.Core.Bool.{true}
use Prim.Native.Nat.{ℕ, ◌+◌, ◌*◌, ◌<◌}
use lib.IntN.{ℤ, pos}
use Rattle.numbers.specs.Depth.{most}
use Rattle.signed.specs.Range.{inside}
use Rattle.signed.proofs.Range.{and_both}
use Rattle.edge_line.specs.Every.{every}
use Rattle.edge_line.proofs.Every.{every-at}
use Rattle.colour_rules.specs.Needed.{Place, value_at, centre_at, direction_at, needed}
use Rattle.colour_rules.specs.Rules.{all_in_range, is_luma_in_range}
use Rattle.colour_rules.specs.declared.block.Block.{Block}

module _ (b : Block) (at : ℕ → ℕ → ℤ) where
  -- the value at a place is in 0..8M+7
  abbrev pub InRange : Place → Type 0
  InRange p = inside (pos (8 * most b.d + 7)) (value_at at p) ≡ true

  pub shown : is_luma_in_range at b ≡ true → (i j : ℕ) → i < b.width → j < b.height → InRange (centre_at b i j) × InRange (direction_at b i j)
  unfolding is_luma_in_range
  shown r i j hi hj =
      let row = every-at (λ y. every (λ x. all_in_range (most b.d) at (needed b x y)) b.width) b.height r j hj in
      let here = every-at (λ x. all_in_range (most b.d) at (needed b x j)) b.width row i hi in
      let p = and_both _ _ here in
      (p.0, (and_both _ _ p.1).0)
