-- What reading answers, step by step: 40, the blocks' own answer, 45, or done. Assumes nothing.
use mathlib.Core.Path.{◌≡◌, refl, ◌∙◌}
use mathlib.Core.Bool.{true, false}
use mathlib.Core.List.{List, [], ◌∷◌, ◌++◌}
use Prim.Native.Nat.{ℕ, ◌*◌}
use lib.ListN.{length}
use Rattle.std.specs.Prelude.{Err}
use Rattle.numbers.specs.Answer.{done}
use Rattle.numbers.specs.declared.answer.Refusal.{Refusal}
use Rattle.numbers.specs.declared.answer.Refusal.TheVariants.{NotBlocks, NoRoom}
use Rattle.refusals.specs.Ladder.{Rule, ◌else◌, ladder}
use Rattle.refusals.proofs.Ladder.{kept, broken, ladder-ok, ladder-err}
use Rattle.block_image.specs.Rules.{is_whole}
use Rattle.block_image.specs.Taken.{blocks_in, rows_of}
use Rattle.block_image.specs.Refusals.{blocks_rules, has_room, file_answer, file_rules}
use Rattle.block_image.specs.declared.format.Format.{Format}

module _ (F : Format) (bytes : List ℕ) (room slots : ℕ) where
  abbrev blocks : List Rule
  blocks = blocks_rules F bytes (blocks_in bytes)

  abbrev last : List Rule
  last = has_room (rows_of F bytes * F.words) room slots else NoRoom ∷ []

  pub not-blocks : is_whole F (length bytes) ≡ false → Err NotBlocks ≡ file_answer F bytes room slots
  unfolding file_answer
  not-blocks e = broken (ladder (file_rules F bytes room slots)) _ _ _ e refl

  module _ (whole : is_whole F (length bytes) ≡ true) where
    first-kept : ladder (file_rules F bytes room slots) ≡ ladder (blocks ++ last)
    first-kept = kept _ _ _ _ whole refl

    pub block_refused : {r : Refusal} → ladder blocks ≡ Err r → file_answer F bytes room slots ≡ Err r
    unfolding file_answer
    block_refused e = first-kept ∙ ladder-err blocks last _ e

    module _ (passed : ladder blocks ≡ done) where
      blocks-kept : ladder (file_rules F bytes room slots) ≡ ladder last
      blocks-kept = first-kept ∙ ladder-ok blocks last tt passed

      pub no_room : has_room (rows_of F bytes * F.words) room slots ≡ false → Err NoRoom ≡ file_answer F bytes room slots
      unfolding file_answer
      no_room e = broken _ _ _ _ e blocks-kept

      pub all-passed : has_room (rows_of F bytes * F.words) room slots ≡ true → file_answer F bytes room slots ≡ done
      unfolding file_answer
      all-passed e = kept _ _ _ _ e blocks-kept
