-- `make_block` meets its contract: head, rows and check. Assumes nothing.
use mathlib.Core.Path.{◌≡◌, ◌∙◌}
use Prim.Native.Nat.{ℕ}
use native.Mathlib.Omega.{arith}
use mathlib.Core.List.{List}
use Rattle.lists.specs.Fill.{filled}
use Rattle.lists.proofs.Fill.{filled_next, filled-all, filled-same}
use Rattle.block_image.specs.Bytes.{byte_of}
use Rattle.block_writer.specs.Made.{head_byte, made_byte}
use Rattle.block_writer.proofs.Made.{made-head, made_row, made-check, made-last, made-zero}
use Rattle.block_writer.proofs.make.make_block.Goals as goal
use Rattle.block_writer.proofs.make.make_block.Lts as lts
use Rattle.block_writer.proofs.make.make_block.Reads as reads
use Rattle.block_writer.proofs.make.make_block.Tie as tie

abbrev At-Start : Type 0
At-Start = lts.Start tie.the-claims reads.Pre reads.Post

module _ (s : At-Start) where
  -- what is to be made
  abbrev due : ℕ → ℕ
  due = made_byte s.args.k s.args.used s.args.lead s.args.words.now

  -- after the head, and after the rows
  head-made : (ys : List ℕ) → ys ≡ filled s.args.lead (head_byte s.args.k s.args.used) s.args.part.now → ys ≡ filled s.args.lead due s.args.part.now
  head-made ys e = e ∙ filled-same s.args.lead _ due s.args.part.now (λ i h. made-head _ _ _ _ i h (omega (arith, s.requires.1)))

pub made_check-check-requires : goal.made_check-check-requires
made_check-check-requires c =
    let r = c.before.before.before in
    let s = r.before.before.before.before.before.before.before.before in
    let head = head-made s _ r.make_head.ensures in
    let rows = filled_next s.args.lead 508 (due s) _ s.args.part.now _ _ (omega arith) (omega arith) head r.make_rows.ensures (λ i h. made_row _ _ _ _ i (omega arith)) in
    (omega arith, omega arith, made-zero _ _ _ _ _ s.args.part.now rows s.requires.1)

pub returns : goal.returns
returns c =
    let m = c.before.before.before.before in
    let r = m.before.before.before.before in
    let s = r.before.before.before.before.before.before.before.before in
    let head = head-made s _ r.make_head.ensures in
    let rows = filled_next s.args.lead 508 (due s) _ s.args.part.now _ _ (omega arith) (omega arith) head r.make_rows.ensures (λ i h. made_row _ _ _ _ i (omega arith)) in
    let check = m.made_check-check.ensures ∙ made-check _ _ _ _ _ s.args.part.now rows in
    let all = filled_next 508 512 (due s) (byte_of m.made_check-check.result) s.args.part.now _ _ (omega arith) (omega arith) rows c.put_word.ensures (λ i h. made-last _ _ _ _ _ check i (omega arith)) in
    all ∙ filled-all 512 (due s) s.args.part.now (omega arith)
