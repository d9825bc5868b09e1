-- What the tests of a writing have shown. Assumes nothing.
use mathlib.Core.Path.{◌≡◌, refl}
use mathlib.Core.Bool.{true}
use mathlib.Core.List.{List, [], ◌∷◌}
use Prim.Native.Nat.{ℕ, ◌%◌}
use native.Mathlib.Nat.{div-add-mod'}
use native.Mathlib.Omega.{arith}
use lib.Dec.{eqb, leb}
use lib.ListN.{length}
use borrow.Author.Tests.{eqb-true, leb-true}
use Rattle.signed.proofs.Range.{and_both}
use Rattle.numbers.specs.Limits.{most_jobs}
use Rattle.numbers.specs.declared.answer.Refusal.TheVariants.{BadPlan, NoRoom}
use Rattle.refusals.specs.Ladder.{◌else◌}
use Rattle.refusals.proofs.Ladder.{all-kept}
use Rattle.block_image.specs.Image.{rows_in, image_size}
use Rattle.block_image.specs.declared.format.Format.{Format}
use Rattle.block_image.specs.Refusals.{is_rows, has_room, write_answer}
use Rattle.block_writer.specs.Made.{WholeRows}
use Rattle.numbers.specs.Answer.{done}

module _ (F : Format) (plan : List ℕ) where
  pub whole-rows : is_rows F plan ≡ true → WholeRows F plan (rows_in F plan)
  unfolding is_rows
  whole-rows e =
      let p = and_both (eqb (length plan % F.words) 0) (leb (rows_in F plan) most_jobs) e in
      record {
        is = refl;
        whole = omega (arith, div-add-mod' (length plan) F.words, eqb-true (length plan % F.words) 0 p.0);
        few = leb-true _ _ p.1;
      }

  pub write_done : (room slots : ℕ) → write_answer F plan room slots ≡ done → (is_rows F plan ≡ true) × (has_room (image_size F plan) room slots ≡ true)
  unfolding write_answer
  write_done room slots e =
      let all = all-kept (is_rows F plan else BadPlan ∷ has_room (image_size F plan) room slots else NoRoom ∷ []) e in
      (all.0, all.1.0)
