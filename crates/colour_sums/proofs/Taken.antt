-- Rows of a window that were taken as lines of entries, by rows or by columns, were taken place by place. Assumes nothing.
use mathlib.Core.Path.{sym, ◌∙◌}
use mathlib.Core.List.{List}
use Prim.Native.Nat.{ℕ, suc, ◌+◌, ◌^◌}
use native.Mathlib.Nat.{le_refl}
use lib.IntN.{ℤ}
use Rattle.numbers.specs.Depth.{most}
use Rattle.numbers.specs.declared.colour.ColourDirection.{ColourDirection}
use Rattle.colour_terms.specs.Terms.{entry}
use Rattle.colour_samples.specs.declared.totals.Totals.{Totals}
use Rattle.colour_samples.specs.Way.{behind}
use Rattle.colour_samples.specs.Took.{Took}
use Rattle.colour_samples.proofs.Steps.{took-as}
use Rattle.colour_lines.specs.TookLines.{TookLines}
use Rattle.colour_sums.specs.Places.{walk_block}
use Rattle.colour_sums.specs.Sum.{one_more}
use Rattle.colour_sums.specs.AsLines.{readable, by_rows, by_columns}
use Rattle.colour_sums.proofs.Swap.{fold-swap, readable-swap, more-swap}
use Rattle.colour_sums.proofs.Blocks.{over-rows, over-columns, read_is, more-is}

module _ (D : ℕ) (direction : ColourDirection) (luma chroma : List ℤ) (m r n : ℕ) (g t : Totals) where
  abbrev Taken : Type 0
  Taken = Took D (walk_block m r n (readable (most D) direction (entry luma) (entry chroma))) (walk_block m r n (one_more D direction (entry luma) (entry chroma))) (2 ^ 40) g t

  pub took-rows : TookLines D luma chroma (behind direction) (by_rows m r n) g t → Taken
  took-rows =
      took-as
      (over-rows m r n direction luma chroma _ _ (λ q p x y hx hy e d ok. read_is m r n direction luma chroma q p x y hx hy e d (most D) ok))
      (over-rows m r n direction luma chroma _ _ (λ q p x y hx hy e d s. more-is m r n direction luma chroma q p x y hx hy e d D s))
      (le_refl (2 ^ 40))

  pub took-columns : TookLines D luma chroma (behind direction) (by_columns m r n) g t → Taken
  took-columns =
      took-as
      (λ ok. over-columns m r n direction luma chroma _ _ (λ q p x y hx hy e d b. read_is m r n direction luma chroma q p x y hx hy e d (most D) b) ok
      ∙ sym (fold-swap (λ i j b. readable (most D) direction (entry luma) (entry chroma) (suc i) (suc (m + j)) b)
      (λ x y p q b. readable-swap (most D) direction (entry luma) (entry chroma) (suc x) (suc (m + y)) (suc p) (suc (m + q)) b) n r ok))
      (λ s. over-columns m r n direction luma chroma _ _ (λ q p x y hx hy e d b. more-is m r n direction luma chroma q p x y hx hy e d D b) s
      ∙ sym (fold-swap (λ i j b. one_more D direction (entry luma) (entry chroma) (suc i) (suc (m + j)) b)
      (λ x y p q b. more-swap D direction (entry luma) (entry chroma) (suc x) (suc (m + y)) (suc p) (suc (m + q)) b) n r s))
      (le_refl (2 ^ 40))
