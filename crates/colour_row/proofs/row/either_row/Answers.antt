-- `either_row` meets its contract: both ways give the same row. Assumes nothing.
use Rattle.colour_row.proofs.row.either_row.Goals as goal

pub short_row-requires : goal.short_row-requires
short_row-requires c = let s = c.before.before in (s.requires.0, s.requires.0.short c.if-k.true, s.requires.2)

pub wide_row-requires : goal.wide_row-requires
wide_row-requires c = let s = c.before.before in (s.requires.0, s.requires.1 c.if-k.false, s.requires.2)
