-- `refused` meets its contract: each test is the ladder's, in its order. Assumes nothing.
use borrow.Author.Rules.{rules, sfits_of}
use mathlib.Core.Path.{refl, sym, ◌∙◌, ap}
use mathlib.Core.List.{◌++◌}
use mir.Syntax.{w32}
use Rattle.numbers.proofs.Look.{passed_on}
use Rattle.numbers.proofs.Named.{ok-done}
use Rattle.signed.proofs.Bound.{back}
use Rattle.refusals.proofs.Ladder.{kept, broken, segment-err}
use Rattle.edges.specs.Rules.{refs_answer}
use Rattle.edges.proofs.answer.refused.Answers.Passed.{sizes, places, late, one, sizes-kept, two, three, place, four}
use Rattle.edges.proofs.answer.refused.Goals as goal
mod Passed

pub returns-then-not-is_plane : goal.returns-then-not-is_plane
unfolding refs_answer
returns-then-not-is_plane c = broken _ _ _ _ (sym c.is_plane.ensures ∙ c.if-not-is_plane.true) refl

pub returns-in_err-size_answer : goal.returns-in_err-size_answer
returns-in_err-size_answer c =
    passed_on _ c.from_residual.ensures.1
    ∙ segment-err (sizes c.args.plane.now c.args.width c.args.height c.args.s c.args.n) (places c.args.plane.now c.args.width c.args.height c.args.s c.args.n ++ late c.args.plane.now c.args.width c.args.height c.args.s c.args.n) c.in_err-size_answer.ensures (one c.args.plane.now c.args.width c.args.height c.args.s c.args.n (sym c.is_plane.ensures ∙ c.if-not-is_plane.false))

pub place_answer-requires : goal.place_answer-requires
place_answer-requires c =
    (sizes-kept c.args.plane.now c.args.width c.args.height c.args.s c.args.n (sym c.is_plane.ensures ∙ c.if-not-is_plane.false) (ok-done c.in_ok-size_answer.ensures)).1.0

pub returns-in_err-place_answer : goal.returns-in_err-place_answer
returns-in_err-place_answer c =
    passed_on _ c.from_residual-in_err-place_answer.ensures.1
    ∙ segment-err (places c.args.plane.now c.args.width c.args.height c.args.s c.args.n) (late c.args.plane.now c.args.width c.args.height c.args.s c.args.n) c.in_err-place_answer.ensures
    (two c.args.plane.now c.args.width c.args.height c.args.s c.args.n (sym c.is_plane.ensures ∙ c.if-not-is_plane.false) (ok-done c.in_ok-size_answer.ensures))

pub returns-then-not-outputs_long : goal.returns-then-not-outputs_long
returns-then-not-outputs_long c =
    broken _ _ _ _ (sym c.outputs_long.ensures ∙ c.if-not-outputs_long.true)
    (three c.args.plane.now c.args.width c.args.height c.args.s c.args.n (sym c.is_plane.ensures ∙ c.if-not-is_plane.false) (ok-done c.in_ok-size_answer.ensures) (ok-done c.in_ok-place_answer.ensures))

pub max_of-requires : goal.max_of-requires
max_of-requires c =
    (sizes-kept c.args.plane.now c.args.width c.args.height c.args.s c.args.n (sym c.is_plane.ensures ∙ c.if-not-is_plane.false) (ok-done c.in_ok-size_answer.ensures)).1.0

pub all_read-requires : goal.all_read-requires
all_read-requires c = (
  place c.args.plane.now c.args.width c.args.height c.args.s c.args.n (sym c.is_plane.ensures ∙ c.if-not-is_plane.false) (ok-done c.in_ok-size_answer.ensures) (ok-done c.in_ok-place_answer.ensures),
  back w32 {z = c.max_of.result} (sfits_of c.max_of.type_inv) ∙ c.max_of.ensures,
)

pub returns-then-not-all_read : goal.returns-then-not-all_read
returns-then-not-all_read c =
    broken _ _ _ _ (sym c.all_read.ensures ∙ c.if-not-all_read.true)
    (four c.args.plane.now c.args.width c.args.height c.args.s c.args.n (sym c.is_plane.ensures ∙ c.if-not-is_plane.false) (ok-done c.in_ok-size_answer.ensures) (ok-done c.in_ok-place_answer.ensures) (sym c.outputs_long.ensures ∙ c.if-not-outputs_long.false))

pub returns : goal.returns
returns c =
    sym
    (kept _ _ _ _ (sym c.all_read.ensures ∙ c.if-not-all_read.false)
    (four c.args.plane.now c.args.width c.args.height c.args.s c.args.n (sym c.is_plane.ensures ∙ c.if-not-is_plane.false) (ok-done c.in_ok-size_answer.ensures) (ok-done c.in_ok-place_answer.ensures) (sym c.outputs_long.ensures ∙ c.if-not-outputs_long.false)))
