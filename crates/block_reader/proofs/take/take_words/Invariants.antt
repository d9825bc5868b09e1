-- `take_words` meets its contract. The invariant: the first i words are taken. Assumes nothing.
use mathlib.Core.Path.{◌≡◌}
use Prim.Native.Nat.{◌*◌}
use Rattle.lists.specs.Fill.{filled}
use Rattle.block_image.specs.Bytes.{word16}
use Rattle.block_image.specs.Rules.{bytes_from}
use Rattle.block_reader.proofs.take.take_words.Given as goal

abbrev pub invariant-loop-i : goal.invariant-loop-i
invariant-loop-i l = l.words ≡ filled l.i (λ j. word16 (bytes_from l.bytes l.o) (2 * j)) l.initial.words
