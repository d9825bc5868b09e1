-- A line of places, place by place. Assumes nothing.
use mathlib.Core.Path.{◌≡◌, sym, subst}
use Prim.Native.Nat.{ℕ, ◌^◌}
use native.Mathlib.Omega.{arith}
use Rattle.colour_samples.specs.declared.sample.Sample.{Sample}
use Rattle.colour_samples.specs.Took.{TookOne}
use Rattle.colour_samples.proofs.Grown.{wider}
use Rattle.colour_samples.proofs.Steps.{took-none, took-then, took-as}
use Rattle.colour_lines.specs.TookLines.{TookLine}
use Rattle.colour_lines.proofs.Folds.{fold-none, fold_next}
use Rattle.colour_lines.proofs.short.TotalsTally.line.Goals as goal

pub loop-i-init : goal.loop-i-init
loop-i-init c = took-as (λ ok. sym (fold-none _ ok)) (λ s. sym (fold-none _ s)) (omega arith) (took-none c.args.self)

pub add-t-requires : goal.add-t-requires
add-t-requires c = wider (omega (arith, c.args.l.held.short)) (c.loop-i.invariant.grown (2 ^ 41) c.requires)

pub loop-i-preserved : goal.loop-i-preserved
loop-i-preserved c =
    let i = c.loop-i.i in
    took-as (λ ok. sym (fold_next i _ ok)) (λ x. sym (fold_next i _ x)) (omega arith)
    (took-then c.loop-i.invariant
    (subst (λ (s : Sample). TookOne c.args.depth.d s.own s.centre s.chroma c.loop-i.t c.add-t.result) c.sample.ensures c.add-t.ensures))

pub returns : goal.returns
returns c =
    let l = c.args.l in
    let all : c.loop-i.i ≡ l.places = omega arith in
    subst (λ (i : ℕ). TookLine c.args.depth.d l.luma.now l.chroma.now l.own l.at i l.step c.args.self c.loop-i.t) all c.loop-i.invariant
