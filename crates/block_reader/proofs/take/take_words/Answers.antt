-- `take_words` meets its contract. The invariant: the first i words are taken. Assumes nothing.
use mathlib.Core.Path.{sym, ◌∙◌}
use native.Mathlib.Omega.{arith}
use Rattle.lists.proofs.Fill.{filled_none, filled_more, filled-all}
use Rattle.block_reader.proofs.take.take_words.Goals as goal

pub loop-i-init : goal.loop-i-init
loop-i-init c = sym (filled_none _ _)

pub loop-i-preserved : goal.loop-i-preserved
loop-i-preserved c = filled_more c.loop-i.i _ _ _ _ 0 (omega arith) c.loop-i.invariant c.word_16.ensures

pub returns : goal.returns
returns c = c.loop-i.invariant ∙ filled-all c.loop-i.i _ _ (omega arith)
