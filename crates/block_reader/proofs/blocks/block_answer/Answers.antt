-- `block_answer` meets its contract: a block that may say so many rows says no more than it holds. Assumes nothing.
use mathlib.Core.Path.{sym, ◌∙◌}
use Rattle.block_image.proofs.Used.{used-within}
use Rattle.block_reader.proofs.blocks.block_answer.Goals as goal

pub is_zero-requires : goal.is_zero-requires
is_zero-requires c = (c.requires.0, used-within _ _ _ _ (sym c.is_used.ensures ∙ c.if-not-is_used.false), c.requires.1)
