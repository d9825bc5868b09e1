-- The page of a plan's own file is the plan's lines. Assumes nothing.
use mathlib.Core.Path.{◌≡◌, ◌∙◌, ap}
use mathlib.Core.List.{List}
use Prim.Native.Nat.{ℕ, ◌*◌, ◌<◌, ◌≤◌}
use lib.ListN.{length, get_or}
use Rattle.numbers.specs.Limits.{most_jobs}
use Rattle.numbers.specs.Answer.{done}
use Rattle.block_image.specs.Image.{rows_in, image}
use Rattle.block_image.specs.Taken.{WholeFile}
use Rattle.block_image.specs.Fits.{Fits}
use Rattle.block_image.specs.declared.format.Format.{Format}
use Rattle.block_image.proofs.Forth.{accepted}
use Rattle.block_image.proofs.ReadsBack.{reads-back}
use Rattle.block_image.proofs.Exact.{read-accepted}
use Rattle.plan_page.specs.Page.{lines_of, answer_of_file, page_of}
use Rattle.plan_page.proofs.PageOf.{page-accepted}
use Rattle.plan_page.proofs.Never45.{room-for-all}

file-done : (F : Format) (bytes : List ℕ) → WholeFile F bytes → answer_of_file F bytes ≡ done
file-done F bytes good = read-accepted F bytes good (most_jobs * F.words) 1 (room-for-all F bytes good)

-- a plan of whole rows, at most 1,024, of 16-bit words
module _ (F : Format) (fit : Fits F) (plan : List ℕ) (small : (i : ℕ) → get_or plan i 0 < 65536)
    (whole : length plan ≡ rows_in F plan * F.words) (few : rows_in F plan ≤ most_jobs) where
  pub page-written : page_of F (image F plan) ≡ lines_of F plan
  page-written =
      page-accepted F (image F plan) (file-done F (image F plan) (accepted F fit plan small whole few))
      ∙ ap (lines_of F) (reads-back F fit plan small whole few)
