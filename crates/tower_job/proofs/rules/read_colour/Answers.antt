-- `read_colour` meets its contract: 2, 3 and then 4, 10, 11 and 12. Assumes nothing.
use mathlib.Core.Path.{◌≡◌, sym, ◌∙◌, ap}
use mathlib.Core.Bool.{true, cond}
use Prim.Native.Nat.{ℕ}
use mathlib.Core.List.{◌∷◌}
use Rattle.numbers.specs.Depth.{is_depth, depth_of}
use Rattle.numbers.specs.declared.answer.Refusal.TheVariants.{BadMode}
use Rattle.numbers.proofs.Agree.{depth-yes, depth-else}
use Rattle.numbers.proofs.Look.{passed_on}
use Rattle.refusals.specs.Ladder.{◌else◌, ladder}
use Rattle.refusals.proofs.Ladder.{kept, broken}
use Rattle.job.specs.Job.{job_of}
use Rattle.job.specs.Row.{Row}
use Rattle.tower_job.specs.Row.{base_row, colour_of_row, is_colour_mode}
use Rattle.tower_job.specs.Tests.{is_tower}
use Rattle.tower_job.specs.Rules.{span_rules, tower_answer}
use Rattle.tower_job.specs.declared.tower.TowerMode.TheVariants.{Base, Colour}
use Rattle.tower_job.proofs.Answers.{by-colour}
use Rattle.tower_job.proofs.Read.{reads-no, reads-yes}
use Rattle.tower_job.proofs.rules.read_colour.Goals as goal

module _ (w h n : ℕ) (row : Row) (m : is_colour_mode row ≡ true) (d : is_depth (colour_of_row row).d ≡ true) where
  -- 2 is kept
  two : tower_answer w h n row ≡ ladder (is_tower row else BadMode ∷ span_rules w h (colour_of_row row))
  two = kept _ _ _ _ d (by-colour w h n row m)

  -- then 3
  three : is_tower row ≡ true → tower_answer w h n row ≡ ladder (span_rules w h (colour_of_row row))
  three t = kept _ _ _ _ t two

pub returns-in_err-try_from : goal.returns-in_err-try_from
returns-in_err-try_from c =
    let first = by-colour c.args.width c.args.height c.args.n c.args.row.now c.requires.1 in
    let e = ap (λ w. depth_of w.d) c.colour_of-c.ensures in
    passed_on _ c.from_residual.ensures.1
    ∙ reads-no _ _ _ _ (depth-else _ _ (c.in_err-try_from.ensures ∙ e) ∙ sym first)

pub returns-then-not-is_tower : goal.returns-then-not-is_tower
returns-then-not-is_tower c =
    let d = ap (λ w. is_depth w.d) (sym c.colour_of-c.ensures) ∙ depth-yes _ _ (sym c.in_ok-try_from.ensures) in
    reads-no _ _ _ _ (broken _ _ _ _ (sym c.is_tower.ensures ∙ c.if-not-is_tower.true) (two c.args.width c.args.height c.args.n c.args.row.now c.requires.1 d))

pub returns-in_err-span_answer : goal.returns-in_err-span_answer
returns-in_err-span_answer c =
    let d = ap (λ w. is_depth w.d) (sym c.colour_of-c.ensures) ∙ depth-yes _ _ (sym c.in_ok-try_from.ensures) in
    let three = three c.args.width c.args.height c.args.n c.args.row.now c.requires.1 d (sym c.is_tower.ensures ∙ c.if-not-is_tower.false) in
    let spans = c.in_err-span_answer.ensures ∙ ap (λ w. ladder (span_rules c.args.width c.args.height w)) c.colour_of-c.ensures in
    passed_on _ c.from_residual-in_err-span_answer.ensures.1 ∙ reads-no _ _ _ _ (spans ∙ sym three)

pub returns : goal.returns
returns c =
    let row = c.args.row.now in
    let e = c.colour_of-c.ensures in
    let d = ap (λ w. is_depth w.d) (sym e) ∙ depth-yes _ _ (sym c.in_ok-try_from.ensures) in
    let three = three c.args.width c.args.height c.args.n row c.requires.1 d (sym c.is_tower.ensures ∙ c.if-not-is_tower.false) in
    let spans = c.in_ok-span_answer.ensures ∙ ap (λ w. ladder (span_rules c.args.width c.args.height w)) e in
    reads-yes _ _ _ _ (spans ∙ sym three) _
    (λ i. record { plane = c.word.ensures i; mode = (ap Colour e ∙ sym (ap (λ b. cond b (Colour (colour_of_row row)) (Base (job_of (base_row row)))) c.requires.1)) i })
