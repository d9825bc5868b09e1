-- `span_answer` meets its contract: 4, 10, 11 and then 12. Assumes nothing.
use mathlib.Core.Path.{◌≡◌, refl, sym, ◌∙◌}
use mathlib.Core.List.{[], ◌∷◌}
use mathlib.Core.Bool.{true}
use Prim.Native.Nat.{ℕ}
use Rattle.colour_words.specs.declared.ColourWords.{ColourWords}
use Rattle.tower_job.specs.Tests.{is_in_planes}
use Rattle.numbers.specs.Colour.{is_colour}
use Rattle.numbers.specs.declared.answer.Refusal.TheVariants.{BadColourDirection, BadReference, BadLines}
use Rattle.numbers.proofs.Colours.{colour-yes, colour-else}
use Rattle.numbers.proofs.Look.{passed_on}
use Rattle.refusals.specs.Ladder.{◌else◌, ladder}
use Rattle.refusals.proofs.Ladder.{kept, broken}
use Rattle.colour_terms.specs.Reference.{is_sizes}
use Rattle.tower_job.specs.Tests.{is_colour_lines}
use Rattle.tower_job.specs.Rules.{span_rules}
use Rattle.tower_job.proofs.rules.span_answer.Goals as goal

module _ (w h : ℕ) (c : ColourWords) (p : is_in_planes w h c ≡ true) where
  -- 4 is kept, then 10, then 11
  four : ladder (span_rules w h c)
      ≡ ladder (is_colour c.direction else BadColourDirection ∷ is_sizes c.ref_width c.ref_height else BadReference ∷ is_colour_lines c else BadLines ∷ [])
  four = kept _ _ _ _ p refl

  ten : is_colour c.direction ≡ true → ladder (span_rules w h c) ≡ ladder (is_sizes c.ref_width c.ref_height else BadReference ∷ is_colour_lines c else BadLines ∷ [])
  ten q = kept _ _ _ _ q four

  eleven : is_colour c.direction ≡ true → is_sizes c.ref_width c.ref_height ≡ true → ladder (span_rules w h c) ≡ ladder (is_colour_lines c else BadLines ∷ [])
  eleven q r = kept _ _ _ _ r (ten q)

pub returns-then-not-is_in_planes : goal.returns-then-not-is_in_planes
returns-then-not-is_in_planes c = broken _ _ _ _ (sym c.is_in_planes.ensures ∙ c.if-not-is_in_planes.true) refl

pub returns-in_err-try_from : goal.returns-in_err-try_from
returns-in_err-try_from c =
    let p = sym c.is_in_planes.ensures ∙ c.if-not-is_in_planes.false in
    rw (four c.args.width c.args.height c.args.c p) (passed_on _ c.from_residual.ensures.1 ∙ colour-else _ _ c.in_err-try_from.ensures)

pub returns-then-not-is_sizes : goal.returns-then-not-is_sizes
returns-then-not-is_sizes c =
    let p = sym c.is_in_planes.ensures ∙ c.if-not-is_in_planes.false in
    let q = colour-yes _ _ (sym c.in_ok-try_from.ensures) in
    broken _ _ _ _ (sym c.is_sizes.ensures ∙ c.if-not-is_sizes.true) (ten c.args.width c.args.height c.args.c p q)

pub returns-then-not-is_colour_lines : goal.returns-then-not-is_colour_lines
returns-then-not-is_colour_lines c =
    let p = sym c.is_in_planes.ensures ∙ c.if-not-is_in_planes.false in
    let q = colour-yes _ _ (sym c.in_ok-try_from.ensures) in
    let r = sym c.is_sizes.ensures ∙ c.if-not-is_sizes.false in
    broken _ _ _ _ (sym c.is_colour_lines.ensures ∙ c.if-not-is_colour_lines.true) (eleven c.args.width c.args.height c.args.c p q r)

pub returns : goal.returns
returns c =
    let p = sym c.is_in_planes.ensures ∙ c.if-not-is_in_planes.false in
    let q = colour-yes _ _ (sym c.in_ok-try_from.ensures) in
    let r = sym c.is_sizes.ensures ∙ c.if-not-is_sizes.false in
    sym (kept _ _ _ _ (sym c.is_colour_lines.ensures ∙ c.if-not-is_colour_lines.false) (eleven c.args.width c.args.height c.args.c p q r))
