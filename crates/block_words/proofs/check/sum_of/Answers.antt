-- `sum_of` meets its contract. The invariant: the sum of the first j words, modulo 2 to the 32. Assumes nothing.
use Rattle.std.proofs.Common.{◌+◌, ◌%◌, ◌^◌, ap, ◌∙◌}
use Rattle.block_image.proofs.Sum.{sum-none, sum-next}
use Rattle.block_words.proofs.check.sum_of.Goals as goal

pub loop-j-init : goal.loop-j-init
loop-j-init c = sum-none _

pub loop-j-preserved : goal.loop-j-preserved
loop-j-preserved c = ap (λ x. (c.loop-j.sum + x) % 2 ^ 32) c.word_32-sum.ensures ∙ sum-next _ _ _ c.loop-j.invariant
