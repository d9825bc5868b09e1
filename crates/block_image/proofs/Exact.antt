-- Reading is done exactly when a file is whole and there is room; what it accepts is the image of what it reads, and what was written is read as the
-- plan that it was. Assumes nothing.
use mathlib.Core.Path.{◌≡◌, refl, sym, ◌∙◌, ap}
use mathlib.Core.Bool.{true}
use mathlib.Core.List.{List, ◌++◌}
use Prim.Native.Nat.{ℕ, zero, suc, ◌*◌, ◌<◌, ◌≤◌}
use native.Mathlib.Omega.{arith}
use lib.ListN.{length, get_or, drop}
use Rattle.numbers.specs.Limits.{most_jobs}
use Rattle.refusals.specs.Ladder.{ladder}
use Rattle.block_image.specs.Image.{rows_in, image_size, image}
use Rattle.block_image.specs.Taken.{blocks_in, WholeFile, rows_of, plan_of}
use Rattle.block_image.specs.Refusals.{blocks_rules, has_room, file_answer}
use Rattle.block_image.specs.Promises.{Outputs, put, taken}
use Rattle.block_image.specs.Fits.{Fits}
use Rattle.block_image.specs.declared.format.Format.{Format}
use Rattle.block_image.proofs.Alike.{block-done}
use Rattle.block_image.proofs.Walk.{blocks-none, blocks-next}
use Rattle.block_image.proofs.Steps.{all-passed}
use Rattle.block_image.proofs.WholeFile.{read_done}
use Rattle.block_image.proofs.Back.{one-image}
use Rattle.block_image.proofs.Forth.{accepted}
use Rattle.block_image.proofs.ReadsBack.{rows-of, reads-back}
use Rattle.numbers.specs.Answer.{done}

module _ (F : Format) (bytes : List ℕ) (good : WholeFile F bytes) where
  blocks-done : (k : ℕ) → k ≤ blocks_in bytes → ladder (blocks_rules F bytes k) ≡ done
  blocks-done zero l = blocks-none F bytes
  blocks-done (suc k) l = blocks-next F bytes k (blocks-done k (omega arith)) ∙ block-done F bytes k (good.each k (omega arith))

  -- the other way is `read_done` (WholeFile.antt)
  pub read-accepted : (room slots : ℕ) → has_room (rows_of F bytes * F.words) room slots ≡ true → file_answer F bytes room slots ≡ done
  read-accepted room slots = all-passed F bytes room slots good.whole (blocks-done (blocks_in bytes) (omega arith))

-- "One plan has one byte image": whatever bytes reading accepts are the image of the plan that is read of them
pub read-image : (F : Format) → Fits F → (bytes : List ℕ) → ((i : ℕ) → get_or bytes i 0 < 256) → (room slots : ℕ) → file_answer F bytes room slots ≡ done
    → image F (plan_of F bytes) ≡ bytes
read-image F fit bytes small room slots e = one-image F fit bytes small (read_done F bytes room slots e).0

-- what the calls leave is the image, or the plan, and the rest of the list as it was
pub image-put : (F : Format) (plan : List ℕ) (before : Outputs) → (put F plan before).list ≡ image F plan ++ drop (image_size F plan) before.list
unfolding image
image-put F plan before = refl

pub plan-taken : (F : Format) (bytes : List ℕ) (before : Outputs) → (taken F bytes before).list ≡ plan_of F bytes ++ drop (rows_of F bytes * F.words) before.list
unfolding plan_of
plan-taken F bytes before = refl

-- "One plan has one byte image, which reads back as that plan."
pub read-written : (F : Format) → Fits F → (plan : List ℕ) → ((i : ℕ) → get_or plan i 0 < 65536) → length plan ≡ rows_in F plan * F.words → rows_in F plan ≤ most_jobs
    → (room slots : ℕ) → has_room (length plan) room slots ≡ true → (file_answer F (image F plan) room slots ≡ done) × (plan_of F (image F plan) ≡ plan)
read-written F fit plan small whole few room slots h =
    let n : rows_of F (image F plan) * F.words ≡ length plan = ap (λ (x : ℕ). x * F.words) (rows-of F fit plan small whole few) ∙ sym whole in (
      read-accepted F (image F plan) (accepted F fit plan small whole few) room slots (ap (λ (x : ℕ). has_room x room slots) n ∙ h),
      reads-back F fit plan small whole few,
    )
