-- `read_base` meets its contract: 3 of the new words, and then what the first library reads of the others. Assumes nothing.
use mathlib.Core.Path.{sym, ◌∙◌, ap}
use mathlib.Core.Bool.{false, cond}
use mathlib.Core.List.{[], ◌∷◌}
use Rattle.numbers.specs.declared.answer.Refusal.TheVariants.{BadMode}
use Rattle.numbers.proofs.Look.{passed_on}
use Rattle.refusals.specs.Ladder.{◌else◌, ladder}
use Rattle.refusals.proofs.Ladder.{segment-ok, segment-err}
use Rattle.block_spec.specs.Rules.{size_rules}
use Rattle.job.specs.Row.{spec_of}
use Rattle.job.specs.Job.{job_of}
use Rattle.job.proofs.Read.{answer-yes, answer-no, read-job}
use Rattle.tower_job.specs.Row.{base_row, colour_of_row}
use Rattle.tower_job.specs.declared.tower.TowerMode.TheVariants.{Base, Colour}
use Rattle.tower_job.proofs.Answers.{tower-base, tower-not}
use Rattle.tower_job.proofs.Read.{reads-no, reads-yes}
use Rattle.tower_job.proofs.base.read_base.Goals as goal

-- the new words break 3: 1 and 2 are tested before it
pub returns-in_err-size_answer : goal.returns-in_err-size_answer
returns-in_err-size_answer c =
    let row = c.args.row.now in
    let first = tower-not c.args.width c.args.height c.args.n row c.requires.1 (sym c.is_tower.ensures ∙ c.if-not-is_tower.true) in
    let sizes = c.in_err-size_answer.ensures ∙ ap (λ s. ladder (size_rules s)) c.spec_of.ensures in
    passed_on _ c.from_residual.ensures.1
    ∙ reads-no _ _ _ _ (segment-err (size_rules (spec_of (base_row row))) (false else BadMode ∷ []) sizes first)

pub returns-then-not-is_tower : goal.returns-then-not-is_tower
returns-then-not-is_tower c =
    let row = c.args.row.now in
    let first = tower-not c.args.width c.args.height c.args.n row c.requires.1 (sym c.is_tower.ensures ∙ c.if-not-is_tower.true) in
    let sizes = c.in_ok-size_answer.ensures ∙ ap (λ s. ladder (size_rules s)) c.spec_of.ensures in
    reads-no _ _ _ _ (sym (segment-ok (size_rules (spec_of (base_row row))) (false else BadMode ∷ []) sizes first))

-- the new words keep 3, and the answer is the first library's
pub returns-in_err-job : goal.returns-in_err-job
returns-in_err-job c =
    let row = c.args.row.now in
    let first = tower-base c.args.width c.args.height c.args.n row c.requires.1 (sym c.is_tower.ensures ∙ c.if-not-is_tower.false) in
    passed_on _ c.from_residual-in_err-job.ensures.1
    ∙ reads-no _ _ _ _ (answer-no _ _ _ (base_row row) (sym c.in_err-job.ensures) ∙ sym first)

pub returns : goal.returns
returns c =
    let row = c.args.row.now in
    let first = tower-base c.args.width c.args.height c.args.n row c.requires.1 (sym c.is_tower.ensures ∙ c.if-not-is_tower.false) in
    let e = sym c.in_ok-job.ensures in
    let y = answer-yes _ _ _ (base_row row) _ e in
    let j = read-job _ _ _ (base_row row) _ e in
    reads-yes _ _ _ _ (y ∙ sym first) _
    (λ i. record { plane = c.word.ensures i; mode = (ap Base j ∙ sym (ap (λ b. cond b (Colour (colour_of_row row)) (Base (job_of (base_row row)))) c.requires.1)) i })
