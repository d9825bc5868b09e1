-- A line of places, place by place. The invariant: the first i places are taken. Assumes nothing.
use Rattle.colour_lines.specs.TookLines.{TookLine}
use Rattle.colour_lines.proofs.short.TotalsTally.line.Given as goal

abbrev pub invariant-loop-i : goal.invariant-loop-i
invariant-loop-i l =
    TookLine l.depth.d l.l.luma.now l.l.chroma.now l.l.own l.l.at l.i l.l.step l.initial.t l.t
