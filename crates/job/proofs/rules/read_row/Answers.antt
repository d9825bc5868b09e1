-- `read_row` meets its contract: each test is the ladder's, in its order, and what is read is the row's job. Assumes nothing.
use mathlib.Core.Path.{sym, ◌∙◌, ap}
use Rattle.numbers.specs.Depth.{is_depth}
use Rattle.numbers.proofs.Look.{passed_on}
use Rattle.refusals.proofs.Ladder.{kept, broken, all-ok, segment-err}
use Rattle.job.specs.Job.{job_with, mode_in}
use Rattle.job.proofs.Read.{reads-no, reads-yes}
use Rattle.job.proofs.rules.read_row.Answers.Passed.{sizes, places, last, late, none, sizes-are, places-are, two, no_mode, three, six}
use Rattle.job.proofs.rules.read_row.Goals as goal
mod Passed

pub returns-in_err-size_answer : goal.returns-in_err-size_answer
returns-in_err-size_answer c =
    let a = c.args in
    let e = sizes-are a.width a.height a.n a.row.now _ _ c.spec_of-s.ensures c.in_err-size_answer.ensures in
    passed_on _ c.from_residual.ensures.1
    ∙ reads-no _ _ _ _ (segment-err (sizes a.width a.height a.n a.row.now) (late a.width a.height a.n a.row.now) e (none a.width a.height a.n a.row.now))

pub returns-in_err-mode : goal.returns-in_err-mode
returns-in_err-mode c =
    let a = c.args in
    let e = sizes-are a.width a.height a.n a.row.now _ _ c.spec_of-s.ensures c.in_ok-size_answer.ensures in
    passed_on _ c.from_residual-in_err-mode.ensures.1 ∙ reads-no _ _ _ _ (no_mode a.width a.height a.n a.row.now e c.in_err-mode.ensures)

pub place_answer-requires : goal.place_answer-requires
place_answer-requires c =
    let a = c.args in
    let e = sizes-are a.width a.height a.n a.row.now _ _ c.spec_of-s.ensures c.in_ok-size_answer.ensures in
    ap (λ s. is_depth s.d) c.spec_of-s.ensures ∙ (all-ok (sizes a.width a.height a.n a.row.now) e).1.0

pub returns-in_err-place_answer : goal.returns-in_err-place_answer
returns-in_err-place_answer c =
    let a = c.args in
    let e = sizes-are a.width a.height a.n a.row.now _ _ c.spec_of-s.ensures c.in_ok-size_answer.ensures in
    let p = places-are a.width a.height a.n a.row.now _ _ c.spec_of-s.ensures c.in_err-place_answer.ensures in
    passed_on _ c.from_residual-in_err-place_answer.ensures.1
    ∙ reads-no _ _ _ _
    (segment-err (places a.width a.height a.n a.row.now) (last a.width a.height a.n a.row.now) p
    (three a.width a.height a.n a.row.now e _ c.in_ok-mode.ensures))

pub returns-then-not-has_differences : goal.returns-then-not-has_differences
returns-then-not-has_differences c =
    let a = c.args in
    let e = sizes-are a.width a.height a.n a.row.now _ _ c.spec_of-s.ensures c.in_ok-size_answer.ensures in
    let p = places-are a.width a.height a.n a.row.now _ _ c.spec_of-s.ensures c.in_ok-place_answer.ensures in
    reads-no _ _ _ _
    (broken _ _ _ _ (sym c.has_differences.ensures ∙ c.if-not-has_differences.true) (six a.width a.height a.n a.row.now e _ c.in_ok-mode.ensures p))

pub returns : goal.returns
returns c =
    let a = c.args in
    let e = sizes-are a.width a.height a.n a.row.now _ _ c.spec_of-s.ensures c.in_ok-size_answer.ensures in
    let p = places-are a.width a.height a.n a.row.now _ _ c.spec_of-s.ensures c.in_ok-place_answer.ensures in
    reads-yes _ _ _ _
    (sym (kept _ _ _ _ (sym c.has_differences.ensures ∙ c.if-not-has_differences.false) (six a.width a.height a.n a.row.now e _ c.in_ok-mode.ensures p)))
    _
    (c.job_of.ensures ∙ (λ j. job_with (c.spec_of-s.ensures j) (mode_in (c.in_ok-mode.ensures j)) a.row.now))
