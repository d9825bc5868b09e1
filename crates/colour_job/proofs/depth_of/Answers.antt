-- `depth_of` meets its contract: the depth is found, since the number is one. Assumes nothing.
use Rattle.numbers.proofs.Agree.{depth-found}
use Rattle.colour_job.proofs.depth_of.Goals as goal

pub unwrap-requires : goal.unwrap-requires
unwrap-requires c = rw c.try_from.ensures (depth-found c.args.d c.requires)
