-- `make_rows` meets its contract: two parts. Assumes nothing.
use mathlib.Core.Path.{◌≡◌, sym, ◌∙◌, ap}
use Prim.Native.Nat.{◌+◌, ◌*◌}
use native.Mathlib.Omega.{arith}
use lib.ListN.{length}
use Rattle.lists.proofs.Fill.{filled_none, filled-part, filled-all, length-filled}
use Rattle.block_writer.specs.Made.{word_byte}
use Rattle.block_writer.proofs.Bytes.{zeros}
use Rattle.block_writer.proofs.Made.{row-past}
use Rattle.block_writer.proofs.make.make_rows.Goals as goal

pub returns : goal.returns
returns c =
    let s = c.before.before.before.before.before.before.before.before.before.before in
    let p = s.args.part.now in
    let xs = s.args.words.now in
    let one = filled-part 0 (2 * length xs) (word_byte xs) (word_byte xs) p p _ (omega arith) (omega arith) (sym (filled_none _ _)) c.put_words.ensures (λ i h. let z : i ≡ 0 + i = omega arith in ap (word_byte xs) z) in
    let same = ap length one ∙ length-filled (2 * length xs) (word_byte xs) p (omega arith) in
    filled-part (2 * length xs) _ (word_byte xs) (λ i. 0) p _ _ (omega arith) (omega arith) one (c.fill.ensures.after (λ y e. e) ∙ zeros _) (λ i h. row-past xs (2 * length xs + i) (omega arith))
    ∙ filled-all _ (word_byte xs) p same
