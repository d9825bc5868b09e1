-- `take_full` meets its contract. The invariant: the words of the first k blocks are taken. Assumes nothing.
use mathlib.Core.Path.{◌≡◌}
use Prim.Native.Nat.{◌*◌}
use Rattle.lists.specs.Fill.{filled}
use Rattle.block_image.specs.Taken.{word_in}
use Rattle.block_reader.proofs.take.take_full.Given as goal

abbrev pub invariant-loop-k : goal.invariant-loop-k
invariant-loop-k l = l.plan ≡ filled (l.k * l.area) (word_in l.area l.lead l.bytes) l.initial.plan
