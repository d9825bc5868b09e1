-- `replay` meets its contract: it ends, since each line leaves less. Assumes nothing.
use Rattle.std.proofs.Common.{length}
use Rattle.replay.proofs.list.replay.Given as goal

abbrev pub decreases-loop-letter : goal.decreases-loop-letter
decreases-loop-letter l = length l.rest
