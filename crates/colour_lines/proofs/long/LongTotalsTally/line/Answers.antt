-- A line of places, the fast way. Assumes nothing.
use Rattle.std.proofs.Common.{rules}
use mathlib.Core.Path.{◌≡◌, sym, ◌∙◌, ap, subst}
use Prim.Native.Nat.{ℕ, ◌+◌}
use native.Mathlib.Omega.{arith}
use mir.Syntax.{w32}
use mir.Val.{SFits}
use Rattle.signed.proofs.Bound.{back}
use Rattle.colour_terms.specs.Terms.{middle}
use Rattle.colour_lines.specs.Fast.{no_place, line_added, nine_of}
use Rattle.colour_lines.specs.Long.{as_totals}
use Rattle.colour_lines.proofs.LineLaws.{line-wider}
use Rattle.colour_lines.proofs.LongLaws.{nine-plus, long-most, middle-one}
use Rattle.colour_lines.proofs.Lined.{InLine, line-start, line-more, line-took}
use Rattle.colour_lines.proofs.long.LongTotalsTally.line.Goals as goal

pub loop-i-init : goal.loop-i-init
loop-i-init c =
    let a = c.args in
    let d = a.depth.d in
    let l = a.l in
    let g = as_totals d a.self in
    let e : c.default-line.result ≡ no_place = search rules in
    subst (InLine d l.luma.now l.chroma.now l.own l.at l.step g 0 a.self.seen) (sym e)
    (line-start d l.luma.now l.chroma.now l.own l.at l.step g)

pub add-line-requires : goal.add-line-requires
add-line-requires c =
    (line-wider (omega (arith, c.args.l.held.short)) c.loop-i.invariant.few, c.of.ensures.1, c.low.ensures.1)

pub loop-i-preserved : goal.loop-i-preserved
loop-i-preserved c =
    let d = c.args.depth.d in
    let o = c.args.depth.of_depth in
    let l = c.args.l in
    let i = c.loop-i in
    let s = c.sample-s.result in
    let g = as_totals d c.args.self in
    let k : SFits w32 s.chroma = search rules in
    let low = simp (back w32 k) at c.low.ensures.0 in
    subst (InLine d l.luma.now l.chroma.now l.own l.at l.step g (i.i + 1) c.with-seen.result)
    (sym (c.add-line.ensures ∙ (λ j. line_added i.line (c.of.ensures.0 j) (low j))))
    (line-more d o.least o.largest l.luma.now l.chroma.now l.own l.at l.step g i.i s i.seen c.with-seen.result i.line i.invariant c.sample-s.ensures c.with-seen.ensures.1)

pub plus-requires : goal.plus-requires
plus-requires c = long-most (middle-one c.args.depth.d) c.requires

pub returns : goal.returns
returns c =
    let a = c.args in
    let d = a.depth.d in
    let o = a.depth.of_depth in
    let l = a.l in
    let g = as_totals d a.self in
    let all : c.loop-i.i ≡ l.places = omega arith in
    line-took d o.least o.largest l.luma.now l.chroma.now l.own l.at l.step g
    (subst (λ (i : ℕ). InLine d l.luma.now l.chroma.now l.own l.at l.step g i c.loop-i.seen c.loop-i.line) all c.loop-i.invariant)
    (ap (nine_of (middle d)) c.plus.ensures ∙ nine-plus (middle d) a.self.sums c.loop-i.line)
