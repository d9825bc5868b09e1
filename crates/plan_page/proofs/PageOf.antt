-- The page of a file that is accepted, and of one that is not. Assumes nothing.
use mathlib.Core.Path.{◌≡◌, sym, ◌∙◌, ap}
use mathlib.Core.Bool.{cond}
use mathlib.Core.List.{List, [], ◌∷◌, ◌++◌}
use Prim.Native.Nat.{ℕ}
use Rattle.std.specs.Prelude.{Err}
use Rattle.numbers.specs.Answer.{Answer, answer_number, refusal_number, is_done, done}
use Rattle.numbers.specs.declared.answer.Refusal.{Refusal}
use Rattle.numbers.proofs.Named.{refusal-not-done}
use Rattle.block_image.specs.Taken.{rows_of, plan_of}
use Rattle.block_image.specs.Fits.{Fits}
use Rattle.block_image.specs.declared.format.Format.{Format}
use Rattle.block_image.proofs.RowsOf.{rows-in}
use Rattle.plan_page.specs.Page.{line_end, decimal, lines_to, lines_of, answer_of_file, page_of}

module _ (F : Format) (bytes : List ℕ) where
  -- by what reading answers
  abbrev page_by : Answer → List ℕ
  page_by a = cond (is_done a) (lines_of F (plan_of F bytes)) (decimal (answer_number a) ++ (line_end ∷ []))

  pub page-refused : (r : Refusal) → answer_of_file F bytes ≡ Err r → decimal (refusal_number r) ++ (line_end ∷ []) ≡ page_of F bytes
  unfolding page_of
  page-refused r e = sym (ap page_by e ∙ ap (λ b. cond b (lines_of F (plan_of F bytes)) (decimal (refusal_number r) ++ (line_end ∷ []))) (refusal-not-done r))

  pub page-accepted : answer_of_file F bytes ≡ done → page_of F bytes ≡ lines_of F (plan_of F bytes)
  unfolding page_of is_done
  page-accepted e = ap page_by e

  pub page-done : Fits F → answer_of_file F bytes ≡ done → lines_to F.words (plan_of F bytes) (rows_of F bytes) ≡ page_of F bytes
  page-done fit e = ap (lines_to F.words (plan_of F bytes)) (sym (rows-in F fit bytes)) ∙ sym (page-accepted e)
