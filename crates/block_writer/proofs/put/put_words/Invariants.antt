-- `put_words` meets its contract. The invariant: the bytes of the first i words are there. Assumes nothing.
use mathlib.Core.Path.{◌≡◌}
use Prim.Native.Nat.{◌*◌, ◌/◌, ◌%◌}
use lib.ListN.{get_or}
use Rattle.lists.specs.Fill.{filled}
use Rattle.block_image.specs.Bytes.{byte_of}
use Rattle.block_writer.proofs.put.put_words.Given as goal

abbrev pub invariant-loop-i : goal.invariant-loop-i
invariant-loop-i l = l.part ≡ filled (2 * l.i) (λ j. byte_of (get_or l.words (j / 2) 0) (j % 2)) l.initial.part
