-- `all_blocks` meets its contract. The invariant: the first k blocks are written. Assumes nothing.
use mathlib.Core.Path.{◌≡◌}
use Prim.Native.Nat.{◌*◌}
use Rattle.lists.specs.Fill.{filled}
use Rattle.block_image.specs.Image.{image_byte}
use Rattle.block_writer.proofs.write.all_blocks.Given as goal

abbrev pub invariant-loop-k : goal.invariant-loop-k
invariant-loop-k l = l.out ≡ filled (512 * l.k) (image_byte l.f l.plan) l.initial.out
