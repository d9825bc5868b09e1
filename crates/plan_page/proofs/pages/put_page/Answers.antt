-- `put_page` meets its contract: the file is read, and then its lines are put, or its refusal. Assumes nothing.
use mathlib.Core.Path.{◌≡◌, refl, sym}
use mathlib.Core.List.{List, [], ◌∷◌}
use Prim.Native.Nat.{ℕ, ◌*◌, ◌+◌}
use native.Mathlib.Nat.{mul-le-mul, mul-le-mul_right}
use native.Mathlib.Omega.{arith}
use lib.ListN.{length, get_or}
use lib.Seq.{length-take-le}
use Rattle.numbers.specs.Answer.{done}
use Rattle.numbers.specs.Limits.{most_jobs}
use Rattle.block_image.specs.Fits.{Fits}
use Rattle.block_image.specs.Promises.{outputs, ReadPlan}
use Rattle.block_image.specs.declared.format.Format.{Format}
use Rattle.block_image.proofs.Fits.{words-most}
use Rattle.plan_page.proofs.Texts.{put_as}
use Rattle.plan_page.proofs.PageOf.{page-refused}
use Rattle.plan_page.proofs.Reading.{Accepted, answer-is, page-put, accepted}
use Rattle.plan_page.proofs.pages.put_page.Goals as goal

-- where the file was accepted
kept : (F : Format) (bytes plan plan' rows' : List ℕ) → Fits F → length plan ≡ most_jobs * F.words
    → ReadPlan F bytes (outputs plan (0 ∷ [])) (outputs plan' rows') done → Accepted F bytes plan' (get_or rows' 0 0)
kept F bytes plan plan' rows' fit long p = accepted F bytes plan (0 ∷ []) plan' rows' done long refl p refl fit

pub overflow_mul-end : goal.overflow_mul-end
overflow_mul-end c =
    let a = kept _ _ _ _ _ c.requires.0 c.requires.1 c.in-Ok.ensures in
    omega (arith, mul-le-mul a.few (words-most c.args.f c.requires.0))

pub slice_bounds-put_lines-end : goal.slice_bounds-put_lines-end
slice_bounds-put_lines-end c = (kept _ _ _ _ _ c.requires.0 c.requires.1 c.in-Ok.ensures).long

pub slice_bounds-put_lines-end-in-Ok : goal.slice_bounds-put_lines-end-in-Ok
slice_bounds-put_lines-end-in-Ok c = sym (length-take-le _ _ (kept _ _ _ _ _ c.requires.0 c.requires.1 c.in-Ok.ensures).long)

pub put_lines-requires : goal.put_lines-requires
put_lines-requires c =
    let a = kept _ _ _ _ _ c.requires.0 c.requires.1 c.in-Ok.ensures in (
      a.few,
      rw (length-take-le _ _ a.long) (omega arith),
      omega (arith, mul-le-mul_right (6 * (c.args.f.words + 1)) a.few, c.requires.2),
    )

pub returns-in-Err : goal.returns-in-Err
returns-in-Err c =
    let e = answer-is _ _ _ (0 ∷ []) _ _ _ c.requires.1 refl c.in-Err.ensures in
    page-put _ _ _ (0 ∷ []) _ _ _ c.requires.1 refl c.in-Err.ensures (put_as (page-refused _ _ _ (sym e)) refl c.put_refusal.ensures)

pub returns-in-Ok : goal.returns-in-Ok
returns-in-Ok c =
    let a = kept _ _ _ _ _ c.requires.0 c.requires.1 c.in-Ok.ensures in
    page-put _ _ _ (0 ∷ []) _ _ _ c.requires.1 refl c.in-Ok.ensures (put_as a.lines refl c.put_lines.ensures)
