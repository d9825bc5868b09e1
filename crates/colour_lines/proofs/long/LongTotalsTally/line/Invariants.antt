-- A line of places, the fast way: the first i places are tested and in the line. Assumes nothing.
use Rattle.colour_lines.specs.Long.{as_totals}
use Rattle.colour_lines.proofs.Lined.{InLine}
use Rattle.colour_lines.proofs.long.LongTotalsTally.line.Given as goal

abbrev pub invariant-loop-i : goal.invariant-loop-i
invariant-loop-i l =
    InLine l.depth.d l.l.luma.now l.l.chroma.now l.l.own l.l.at l.l.step (as_totals l.depth.d l.self) l.i l.seen l.line
