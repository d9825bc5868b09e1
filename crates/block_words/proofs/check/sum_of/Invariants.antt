-- `sum_of` meets its contract. The invariant: the sum of the first j words, modulo 2 to the 32. Assumes nothing.
use Rattle.std.proofs.Common.{◌≡◌, ◌%◌, ◌^◌}
use Rattle.block_image.specs.Bytes.{sum_to}
use Rattle.block_image.specs.Rules.{bytes_from}
use Rattle.block_words.proofs.check.sum_of.Given as goal

abbrev pub invariant-loop-j : goal.invariant-loop-j
invariant-loop-j l = l.sum ≡ sum_to (bytes_from l.bytes l.o) l.j % 2 ^ 32
