-- `take` meets its contract. The invariant: the first j lines are taken. Assumes nothing.
use Rattle.colour_lines.proofs.EachLine.{FirstLines}
use Rattle.colour_lines.proofs.lines.take.Given as goal

abbrev pub invariant-loop-j : goal.invariant-loop-j
invariant-loop-j g l =
    FirstLines l.depth.d l.luma l.chroma l.l l.back (g.T.Tally.stands_for l.depth.d l.fn.g) l.j (g.T.Tally.stands_for l.depth.d l.t)
