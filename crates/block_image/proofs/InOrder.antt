-- "per block in that order": the first test that a block fails gives its answer, whatever the later ones would say. Assumes nothing.
use mathlib.Core.Path.{◌≡◌}
use mathlib.Core.Bool.{Bool, true, false}
use Prim.Native.Nat.{ℕ}
use Rattle.std.specs.Prelude.{Err}
use Rattle.numbers.specs.declared.answer.Refusal.TheVariants.{BadCheck, OutOfTurn, BadUsed, NotZero}
use Rattle.block_image.specs.Rules.{used_at, is_check, is_index, is_used, is_zero}
use Rattle.block_image.specs.Refusals.{block_answer}
use Rattle.block_image.specs.declared.format.Format.{Format}

module _ (F : Format) (last : Bool) (k : ℕ) (at : ℕ → ℕ) where
  pub first-41 : is_check at ≡ false → block_answer F last k at ≡ Err BadCheck
  unfolding block_answer
  first-41 e = rw e

  module _ (check : is_check at ≡ true) where
    pub then-42 : is_index k at ≡ false → block_answer F last k at ≡ Err OutOfTurn
    unfolding block_answer
    then-42 e = rw (check, e)

    module _ (index : is_index k at ≡ true) where
      pub then-43 : is_used F last k (used_at at) ≡ false → block_answer F last k at ≡ Err BadUsed
      unfolding block_answer
      then-43 e = rw (check, index, e)

      pub then-44 : is_used F last k (used_at at) ≡ true → is_zero F (used_at at) at ≡ false → block_answer F last k at ≡ Err NotZero
      unfolding block_answer
      then-44 used e = rw (check, index, used, e)
