-- `derive` meets its contract: each test is the ladder's. Assumes nothing.
use mathlib.Core.Path.{sym, ◌∙◌, ap}
use Rattle.numbers.proofs.Agree.{depth-yes, depth-back}
use Rattle.numbers.proofs.Look.{passed_on}
use Rattle.colour_terms.specs.Terms.{entry}
use Rattle.colour_params.specs.Derived.{sampled}
use Rattle.colour_params.proofs.Answers.{passed, answer-depth, answer-window, answer-samples, derived-refused, derived-samples}
use Rattle.colour_params.proofs.derive.Goals as goal

pub returns-in_err-depth : goal.returns-in_err-depth
returns-in_err-depth c =
    passed_on _ c.from_residual.ensures.1 ∙ derived-refused _ _ _ _ _ _ _ (answer-depth _ _ _ _ _ _ _ c.in_err-depth.ensures)

pub returns-in_err-answer_of : goal.returns-in_err-answer_of
returns-in_err-answer_of c =
    let depth = depth-yes c.args.d _ (sym c.in_ok-depth.ensures) in
    passed_on _ c.from_residual-in_err-answer_of.ensures.1
    ∙ derived-refused _ _ _ _ _ _ _ (answer-window _ _ _ _ _ _ _ depth (sym c.in_err-answer_of.ensures))

pub sampled-requires : goal.sampled-requires
sampled-requires c =
    let a = c.args in (
      passed a.luma.now a.chroma.now a.w a.direction a.d a.room (sym c.in_ok-answer_of.ensures),
      depth-back _ _ (sym c.in_ok-depth.ensures),
    )

pub returns : goal.returns
returns c =
    let a = c.args in
    let depth = depth-yes a.d _ (sym c.in_ok-depth.ensures) in
    c.sampled.ensures
    ∙ ap (λ x. sampled (entry a.luma.now) (entry a.chroma.now) a.w x a.d) c.named.ensures
    ∙ derived-samples a.luma.now a.chroma.now a.w a.direction a.d a.room
    (answer-samples a.luma.now a.chroma.now a.w a.direction a.d a.room depth (sym c.in_ok-answer_of.ensures))
