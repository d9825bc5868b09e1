-- `make_head` meets its contract: three parts, one after the other. Assumes nothing.
use mathlib.Core.Path.{sym, ◌∙◌}
use native.Mathlib.Omega.{arith}
use Rattle.lists.proofs.Fill.{filled_none, filled-part, filled_next}
use Rattle.block_image.specs.Bytes.{byte_of}
use Rattle.block_writer.specs.Made.{head_byte}
use Rattle.block_writer.proofs.Bytes.{zeros}
use Rattle.block_writer.proofs.Made.{head-index, head-used, head-zero}
use Rattle.block_writer.proofs.make.make_head.Goals as goal

pub returns : goal.returns
returns c =
    let s = c.before.before.before.before.before.before.before.before.before.before.before.before.before in
    let p = s.args.part.now in
    let k = s.args.k in
    let u = s.args.used in
    let l = s.requires in
    let one = filled-part 0 4 (head_byte k u) (byte_of k) p p _ (omega arith) (omega arith) (sym (filled_none _ _)) c.put_word.ensures (λ i h. head-index k u i (omega arith)) in
    let two = filled_next 4 8 (head_byte k u) (byte_of u) p _ _ (omega arith) (omega arith) one c.put_word-2.ensures (λ i h. head-used k u i (omega arith)) in
    filled_next 8 s.args.lead (head_byte k u) (λ i. 0) p _ _ (omega arith) (omega arith) two (c.fill.ensures.after (λ y e. e) ∙ zeros _) (λ i h. head-zero k u i)
