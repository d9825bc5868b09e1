-- `put_word` meets its contract. Assumes nothing.
use mathlib.Core.Path.{sym, ◌∙◌, ap}
use Rattle.lists.specs.Fill.{tab}
use Rattle.block_image.specs.Bytes.{byte_of}
use Rattle.block_writer.proofs.Bytes.{le_bytes_four}
use Rattle.block_writer.proofs.put.put_word.Goals as goal

pub returns : goal.returns
returns c =
    c.copy_from_slice.ensures.after ∙ c.to_le_bytes.ensures ∙ le_bytes_four c.args.w ∙ ap (λ n. tab n (byte_of c.args.w)) (sym c.requires)
