-- `max_of` meets its contract: the depth is found, since the number is one. Assumes nothing.
use Rattle.numbers.proofs.Agree.{depth-found}
use Rattle.colour_row.proofs.mix.max_of.Goals as goal

pub unwrap-requires : goal.unwrap-requires
unwrap-requires c = rw c.depth_of.ensures (depth-found c.args.d c.requires)
