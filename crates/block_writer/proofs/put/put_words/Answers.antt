-- `put_words` meets its contract. The invariant: the bytes of the first i words are there. Assumes nothing.
use mathlib.Core.Path.{◌≡◌, sym, ◌∙◌, ap}
use Prim.Native.Nat.{ℕ, ◌+◌, ◌*◌, ◌/◌, ◌%◌}
use native.Mathlib.Omega.{arith}
use lib.ListN.{get_or}
use Rattle.lists.specs.Fill.{tab, filled}
use Rattle.lists.proofs.Fill.{filled_none, filled-part, filled-all}
use Rattle.lists.proofs.Block.{part_length}
use Rattle.block_image.specs.Bytes.{byte_of}
use Rattle.block_writer.proofs.Bytes.{le_bytes_two}
use Rattle.block_writer.proofs.put.put_words.Goals as goal

pub loop-i-init : goal.loop-i-init
loop-i-init c = sym (filled_none _ _)

pub loop-i-preserved : goal.loop-i-preserved
loop-i-preserved c =
    let xs = c.args.words.now in
    let i = c.loop-i.i in
    let w = get_or xs i 0 in
    let g : ℕ → ℕ = λ j. byte_of (get_or xs (j / 2) 0) (j % 2) in
    let two = c.copy_from_slice.ensures.after ∙ c.to_le_bytes.ensures ∙ le_bytes_two w ∙ ap (λ n. tab n (byte_of w)) (sym (part_length (2 * i) 2 c.loop-i.part (omega arith))) in
    let next : 2 * i + 2 ≡ 2 * (i + 1) = omega arith in
    filled-part (2 * i) (2 * i + 2) g (byte_of w) _ _ _ (omega arith) (omega arith) c.loop-i.invariant two
    (λ b h. let q : i ≡ (2 * i + b) / 2 = omega arith in let r : b ≡ (2 * i + b) % 2 = omega arith in λ j. byte_of (get_or xs (q j) 0) (r j))
    ∙ ap (λ n. filled n g c.args.part.now) next

pub returns : goal.returns
returns c = c.loop-i.invariant ∙ filled-all (2 * c.loop-i.i) _ _ (omega arith)
