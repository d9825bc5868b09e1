-- The area that is tested holds what the block needs and no more, so that its test is rule 13's. Assumes nothing.
use mathlib.Core.Path.{◌≡◌, refl, ◌∙◌, ap}
use mathlib.Core.Bool.{Bool, true}
use mathlib.Core.List.{List}
use mathlib.Core.Logic.{⊎_elim}
use Prim.Native.Nat.{ℕ, ◌+◌, ◌*◌, ◌<◌}
use lib.IntN.{ℤ, pos}
use lib.ListN.{get_or}
use Rattle.numbers.specs.Depth.{most}
use Rattle.signed.specs.Range.{inside}
use Rattle.edge_line.specs.Every.{every}
use Rattle.edge_line.proofs.Every.{every-at, every-all, both_ways, and-of}
use Rattle.colour_terms.specs.Terms.{entry}
use Rattle.colour_rules.specs.Needed.{direction_at, needed}
use Rattle.colour_rules.specs.Rules.{all_in_range, is_luma_in_range}
use Rattle.colour_rules.specs.Area.{up_of, beside_of}
use Rattle.colour_rules.specs.Placed.{InReference}
use Rattle.colour_rules.specs.declared.block.Block.{Block}
use Rattle.colour_rules.proofs.Shown.{shown}
use Rattle.colour_rules.proofs.Bounds.{up-most, beside-most}
use Rattle.colour_rules.proofs.Reach.{cell, Wanted, Within, wanted-at, within-at, centre-within}

module _ (b : Block) (n : ℕ) (g : InReference b n) (luma : List ℤ) where
  abbrev test : ℕ → Bool
  test p = inside (pos (8 * most b.d + 7)) (get_or luma p (pos 0))

  abbrev row_test : ℕ → Bool
  row_test y = every (λ x. test (cell b (up_of b) (beside_of b) y x)) (b.width + beside_of b)

  passed : every row_test (b.height + up_of b) ≡ true → (p : ℕ) → Within b (up_of b) (beside_of b) p → test p ≡ true
  passed e p w =
      ap test w.is
      ∙ every-at (λ x. test (cell b (up_of b) (beside_of b) w.y x)) (b.width + beside_of b) (every-at row_test (b.height + up_of b) e w.y w.high) w.x w.wide

  pub whole : is_luma_in_range (entry luma) b ≡ every row_test (b.height + up_of b)
  unfolding is_luma_in_range
  whole =
      both_ways (is_luma_in_range (entry luma) b) (every row_test (b.height + up_of b))
      (λ r. every-all row_test (b.height + up_of b) (λ y p. every-all (λ x. test (cell b (up_of b) (beside_of b) y x)) (b.width + beside_of b) (λ x q. here r (wanted-at b n g y x p q))))
      (λ e. every-all _ b.height (λ j q. every-all _ b.width (λ i p. there e i j p q)))
    where
      here : is_luma_in_range (entry luma) b ≡ true → {p : ℕ} → Wanted b (direction_at b) p → test p ≡ true
      here r w =
          let k = shown b (entry luma) r w.i w.j w.wide w.high in
          ⊎_elim (λ e. ap test e ∙ k.0) (λ e. ap test e ∙ k.1) w.is

      there : every row_test (b.height + up_of b) ≡ true → (i j : ℕ) → i < b.width → j < b.height → all_in_range (most b.d) (entry luma) (needed b i j) ≡ true
      there e i j p q =
          and-of _ _ (passed e _ (centre-within b n g (up_of b) (beside_of b) (up-most b n g) (beside-most b n g) i j p q))
          (and-of _ _ (passed e _ (within-at b n g i j p q)) refl)
