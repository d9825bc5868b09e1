-- What reading a file with room for every plan left in the lists that it was lent. Assumes nothing.
use mathlib.Core.Path.{◌≡◌, refl, sym, ◌∙◌, ap}
use mathlib.Core.Bool.{Bool, true, false, cond}
use mathlib.Core.List.{List, ◌++◌}
use Prim.Native.Nat.{ℕ, ◌*◌, ◌≤◌}
use native.Mathlib.Omega.{arith}
use lib.ListN.{length, take, drop, get_or, length-take, length-append}
use lib.Seq.{take_at}
use Rattle.numbers.specs.Limits.{most_jobs}
use Rattle.numbers.specs.Answer.{done, is_done, Answer}
use Rattle.refusals.specs.Promise.{lent}
use Rattle.refusals.proofs.Promise.{lent-done}
use Rattle.lists.specs.Fill.{filled}
use Rattle.lists.proofs.Fill.{filled_at, length-tab}
use Rattle.block_image.specs.Taken.{rows_of, word_at, plan_of}
use Rattle.block_image.specs.Fits.{Fits}
use Rattle.block_image.specs.Promises.{outputs, taken, answer_read, ReadPlan}
use Rattle.block_image.specs.Refusals.{file_answer}
use Rattle.block_image.specs.declared.format.Format.{Format}
use Rattle.block_image.proofs.WholeFile.{read_done, rows_few}
use Rattle.plan_page.specs.Page.{lines_to, answer_of_file, page_of}
use Rattle.plan_page.specs.Promises.{page_lists, ShowPage}
use Rattle.plan_page.specs.Put.{Put}
use Rattle.plan_page.proofs.Texts.{put_whole}
use Rattle.plan_page.proofs.PageOf.{page-done}

-- of a file that is accepted: the count of its rows, in bounds, and its lines, of the words that are left
pub record Accepted (F : Format) (bytes plan' : List ℕ) (n : ℕ) : Type 0 where
  pub few : n ≤ most_jobs
  pub long : n * F.words ≤ length plan'
  pub lines : lines_to F.words (take (n * F.words) plan') n ≡ page_of F bytes

-- the page lies at the start of the text's list
pub page-at : (F : Format) (bytes plan xs plan' ys : List ℕ) (r : ℕ) → ShowPage F bytes (page_lists plan xs) (page_lists plan' ys) r
    → (r ≤ length ys) × (take r ys ≡ page_of F bytes)
page-at F bytes plan xs plan' ys r p =
    let t = page_of F bytes in
    let e : ys ≡ t ++ drop (length t) xs = ap (λ l. l.text) p.holds in
    (omega (arith, p.answers, ap length e, length-append t (drop (length t) xs)), ap (take r) e ∙ take_at t _ r (sym p.answers))

module _ (F : Format) (bytes plan rows plan' rows' : List ℕ) (r : Answer) (long : length plan ≡ most_jobs * F.words) (one : length rows ≡ 1)
    (p : ReadPlan F bytes (outputs plan rows) (outputs plan' rows') r) where
  pub answer-is : r ≡ answer_of_file F bytes
  answer-is = p.answers ∙ (λ j. file_answer F bytes (long j) (one j))

  plan-is : plan' ≡ lent (answer_of_file F bytes) (filled (rows_of F bytes * F.words) (word_at F bytes) plan) plan
  plan-is =
      ap (λ o. o.list) p.holds
      ∙ part (is_done (answer_read F bytes (outputs plan rows)))
      ∙ (λ j. lent (file_answer F bytes (long j) (one j)) (filled (rows_of F bytes * F.words) (word_at F bytes) plan) plan)
    where
      part : (b : Bool) → (cond b (taken F bytes (outputs plan rows)) (outputs plan rows)).list ≡ cond b (filled (rows_of F bytes * F.words) (word_at F bytes) plan) plan
      part true = refl
      part false = refl

  -- the page once it is put
  pub page-put : {xs ys : List ℕ} {r' : ℕ} → Put (page_of F bytes) 0 xs r' ys → ShowPage F bytes (page_lists plan xs) (page_lists plan' ys) r'
  page-put f = let w = put_whole f in record { answers = w.0; holds = λ j. page_lists (plan-is j) (w.1 j) }

  module _ (yes : r ≡ done) where
    left : outputs plan' rows' ≡ taken F bytes (outputs plan rows)
    left = p.holds ∙ sym (lent-done (answer_read F bytes (outputs plan rows)) _ _ (sym p.answers ∙ yes))

    rows_left : get_or rows' 0 0 ≡ rows_of F bytes
    rows_left = ap (λ o. get_or o.count 0 0) left ∙ filled_at 1 (λ i. rows_of F bytes) rows 0 0 (omega arith)

    plan-left : take (rows_of F bytes * F.words) plan' ≡ plan_of F bytes
    unfolding plan_of
    plan-left = ap (λ o. take (rows_of F bytes * F.words) o.list) left ∙ take_at _ _ _ (length-tab _ _)

    plan-long : rows_of F bytes * F.words ≤ length plan'
    unfolding plan_of
    plan-long =
        omega (arith, ap length plan-left, length-take (rows_of F bytes * F.words) plan', length-tab (rows_of F bytes * F.words) (word_at F bytes))

    rows-most : rows_of F bytes ≤ most_jobs
    rows-most = rows_few F bytes (read_done F bytes (most_jobs * F.words) 1 (sym answer-is ∙ yes)).0

    pub accepted : Fits F → Accepted F bytes plan' (get_or rows' 0 0)
    accepted fit =
        let e = rows_left in
        let all = ap (λ l. lines_to F.words l (rows_of F bytes)) plan-left ∙ page-done F bytes fit (sym answer-is ∙ yes) in
        rw e (record { few = rows-most; long = plan-long; lines = all })
