-- `past_comments` meets its contract: it ends, since each line leaves less. Assumes nothing.
use Rattle.std.proofs.Common.{length}
use Rattle.text.proofs.word.past_comments.Given as goal

abbrev pub decreases-loop-rest : goal.decreases-loop-rest
decreases-loop-rest l = length l.rest
