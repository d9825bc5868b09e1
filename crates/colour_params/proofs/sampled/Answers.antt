-- `sampled` meets its contract: 13 and 14 in their order, and a window that passes both meets what elimination asks. Assumes nothing.
use mathlib.Core.Path.{sym, ◌∙◌, ap, subst}
use Prim.Native.Nat.{ℕ, ◌*◌, ◌≤◌}
use native.Mathlib.Omega.{arith}
use Rattle.std.specs.Prelude.{Ok}
use Rattle.numbers.specs.Depth.{most}
use Rattle.colour_terms.specs.Terms.{entry}
use Rattle.colour_samples.specs.Nine.{NineMost}
use Rattle.colour_samples.specs.declared.nine.Nine.{Nine}
use Rattle.colour_samples.proofs.Ranges.{bits-least}
use Rattle.colour_sums.specs.Sum.{gathered}
use Rattle.colour_sums.proofs.Count.{count_most}
use Rattle.colour_sums.proofs.Sizes.{sums-most}
use Rattle.colour_sums.proofs.Whole.{gathered_none, gathered-sums}
use Rattle.colour_solve.specs.Shift.{params_of}
use Rattle.colour_solve.specs.Small.{is_small}
use Rattle.colour_params.proofs.Samples.{sampled-none, sampled-bad, sampled-large, sampled-done}
use Rattle.colour_params.proofs.sampled.Goals as goal

pub returns-then-n-eq0 : goal.returns-then-n-eq0
returns-then-n-eq0 c =
    let a = c.args in
    ap Ok c.flat.ensures ∙ sampled-none (entry a.luma.now) (entry a.chroma.now) a.w a.direction a.d (sym c.count_of-n.ensures ∙ c.if-n-eq0.true)

pub returns-in_default : goal.returns-in_default
returns-in_default c =
    let a = c.args in
    let e = c.gather-g.ensures ∙ ap (λ d. gathered d a.direction (entry a.luma.now) (entry a.chroma.now) a.w) c.of.ensures in
    sampled-bad (entry a.luma.now) (entry a.chroma.now) a.w a.direction a.d
    (gathered_none a.d a.direction (entry a.luma.now) (entry a.chroma.now) a.w (sym e ∙ c.in_default.is))

pub returns-then-not-is_small : goal.returns-then-not-is_small
returns-then-not-is_small c =
    let a = c.args in
    let e = c.gather-g.ensures ∙ ap (λ d. gathered d a.direction (entry a.luma.now) (entry a.chroma.now) a.w) c.of.ensures in
    let both = gathered-sums a.d a.direction (entry a.luma.now) (entry a.chroma.now) a.w c.in-Some.s (sym e ∙ c.in-Some.is) in
    let small = c.is_small.ensures ∙ ap is_small both.1 in
    sampled-large (entry a.luma.now) (entry a.chroma.now) a.w a.direction a.d both.0 (sym small ∙ c.if-not-is_small.true)

pub params_of-requires : goal.params_of-requires
params_of-requires c =
    let a = c.args in
    let e = c.gather-g.ensures ∙ ap (λ d. gathered d a.direction (entry a.luma.now) (entry a.chroma.now) a.w) c.of.ensures in
    let both = gathered-sums a.d a.direction (entry a.luma.now) (entry a.chroma.now) a.w c.in-Some.s (sym e ∙ c.in-Some.is) in
    let least = subst (λ (d : ℕ). 1 ≤ d) c.requires.1 (bits-least a.depth) in (
      c.requires.1,
      omega (arith, c.if-n-eq0.false),
      omega (arith, c.count_of-n.ensures, count_most a.w c.requires.0.wide c.requires.0.high),
      subst (λ (t : ℕ × Nine). NineMost (t.0 * (most a.d * most a.d)) t.1) (sym (λ j. (c.count_of-n.ensures j, both.1 j)))
          (sums-most a.d a.direction (entry a.luma.now) (entry a.chroma.now) a.w least both.0),
    )

pub returns : goal.returns
returns c =
    let a = c.args in
    let e = c.gather-g.ensures ∙ ap (λ d. gathered d a.direction (entry a.luma.now) (entry a.chroma.now) a.w) c.of.ensures in
    let both = gathered-sums a.d a.direction (entry a.luma.now) (entry a.chroma.now) a.w c.in-Some.s (sym e ∙ c.in-Some.is) in
    let small = c.is_small.ensures ∙ ap is_small both.1 in
    sampled-done (entry a.luma.now) (entry a.chroma.now) a.w a.direction a.d c.params_of.result both.0
    (sym small ∙ c.if-not-is_small.false)
    (c.params_of.ensures ∙ (λ j. params_of a.d (c.count_of-n.ensures j) (both.1 j)))
