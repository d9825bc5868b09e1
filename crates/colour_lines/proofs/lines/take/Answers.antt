-- `take` meets its contract. Assumes nothing.
use native.Mathlib.Omega.{arith}
use Rattle.colour_lines.proofs.EachLine.{lines_none, lines_next, lines-room, lines-all}
use Rattle.colour_lines.proofs.lines.take.Goals as goal

pub loop-j-init : goal.loop-j-init
loop-j-init g c = let a = c.args in lines_none a.depth.d a.luma.now a.chroma.now a.l a.back _

pub line-t-requires : goal.line-t-requires
line-t-requires g c =
    let a = c.args in
    let p = c.requires in
    lines-room a.depth.d a.luma.now a.chroma.now a.l a.back _ p.0.short c.loop-j.j _ c.loop-j.invariant (omega (arith, p.0.few)) p.1

pub loop-j-preserved : goal.loop-j-preserved
loop-j-preserved g c =
    let a = c.args in
    lines_next a.depth.d a.luma.now a.chroma.now a.l a.back _ c.loop-j.j _ _ c.loop-j.invariant c.line-t.ensures

pub returns : goal.returns
returns g c =
    let a = c.args in
    let p = c.requires.0 in
    lines-all a.depth.d a.luma.now a.chroma.now a.l a.back _ p.short c.loop-j.j _ c.loop-j.invariant (omega arith) p.few
